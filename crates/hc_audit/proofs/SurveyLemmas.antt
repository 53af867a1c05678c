-- What one record more makes of a survey, and what its end.
use Rattle.std.proofs.Common.{◌≡◌, ◌≢◌, ℕ, ◌+◌, List, [], ◌∷◌, ◌++◌, Option, Some, None, IfSome, refl, sym, ap, subst, ◌∙◌, ◌⊎◌, inl, inr, append-nil, append_assoc}
use Rattle.hc_transcript.specs.declared.fault.RecordFault.{RecordFault}
use Rattle.hc_transcript.specs.declared.fault.RecordFault.TheVariants as fault
use Rattle.hc_transcript.specs.declared.format.Format.{Format}
use Rattle.hc_transcript.specs.declared.format.Format.TheVariants.{First}
use Rattle.hc_transcript.specs.declared.reader.RecordReader.{RecordReader}
use Rattle.hc_transcript.specs.declared.record.Record.{Record}
use Rattle.hc_transcript.specs.Items.{Item, ClientReply}
use Rattle.hc_transcript.specs.History.{next_position}
use Rattle.hc_transcript.specs.Transcript.{IsTranscript, Splits}
use Rattle.hc_transcript.specs.Malformed.{IsUnfinishedOpening, IsUnfinished}
use Rattle.hc_transcript.specs.Checks.{line_fault}
use Rattle.hc_transcript.specs.Reader.{Agrees, ReadsTo, WaitsBy, Waits, MeetsFault, HasUnread, HasUnreadBy, format_read, position_by, reader_position, waiting}
use Rattle.hc_transcript.proofs.OnceLemmas.{one as one_reading, same_format}
use Rattle.hc_history.specs.declared.settings.Settings.{Settings}
use Rattle.hc_history.specs.declared.verdicts.Finding.{Finding}
use Rattle.hc_history.specs.declared.verdicts.Finding.TheVariants.{Right, Wrong}
use Rattle.hc_history.specs.declared.wrong.WrongReply.{WrongReply}
use Rattle.hc_history.specs.declared.wrong.Ending.{Ending}
use Rattle.hc_history.specs.declared.wrong.Ending.TheVariants.{Whole, Broken}
use Rattle.hc_history.specs.declared.verdicts.Counts.{Counts}
use Rattle.hc_history.specs.declared.verdicts.Verdict.TheVariants.{Yes}
use Rattle.hc_status.specs.declared.marks.Mark.{Mark}
use Rattle.hc_history.specs.Counting.{counts_of, no_counts}
use Rattle.hc_history.specs.Marks.{item_mark}
use Rattle.hc_history.specs.Right.{AllRight}
use Rattle.hc_history.specs.Verdicts.{IsVerdict}
use Rattle.hc_history.specs.Found.{IsFound, AnswersOpen}
use Rattle.hc_history.specs.Seen.{Seen, IsSeenAs}
use Rattle.hc_history.specs.WrongReplies.{wrong_after, AreWrongIn, AreWrongReplies}
use Rattle.hc_history.proofs.FoundLemmas.{found_right, found_wrong}
use Rattle.hc_history.proofs.WrongLemmas.{one_list}
use Rattle.hc_audit.specs.declared.judge.Judge.{Judge}
use Rattle.hc_audit.specs.declared.survey.SurveyStage.{SurveyStage}
use Rattle.hc_audit.specs.declared.survey.SurveyStage.TheVariants.{Open, Ended, Failed}
use Rattle.hc_audit.specs.declared.witness.JudgedReply.{JudgedReply}
use Rattle.hc_audit.specs.Endings.{EndsSo, IsSurveyOf, MayGoOn}
use Rattle.hc_audit.specs.Hearing.{IsReplyBehind, item_judged}
use Rattle.hc_audit.specs.Told.{wrong_of}
use Rattle.hc_audit.specs.Judging.{HasRead, finding_told, mark_told, MayBeOf}
use Rattle.hc_audit.specs.Surveying.{AreCounted, AreWrong, GoOnBy, IsSurveying, IsSurveyed, IsAheadOf, SurveysBy, ended_by}
use Rattle.hc_audit.proofs.JudgeLemmas.{might_be_of, may_be_read, may_be_split, met_more, not_torn, none_is_some, of_the_read}

-- ---- a record more

-- what the witness was told of it
told_of : (format : Format) (settings : Settings) (h : List Item) (item : Item) (found : Finding) (position : ℕ) (old new : List WrongReply) → AnswersOpen h item
    → IsFound format settings h item found → position ≡ next_position h → new ≡ old ++ wrong_of position found → GoOnBy format settings h item old new
told_of format settings h item Right position old new opens is position-is told = inl (found_right format settings h item opens is, told ∙ append-nil old)
told_of format settings h item (Wrong why) position old new opens is position-is told =
    inr (why, found_wrong format settings h item why opens is, told ∙ ap (λ (n : ℕ). old ++ record { position = n; reason = why } ∷ []) position-is)

pub told_reply : {I : Type 0} (format : Format) (settings : Settings) (h : List Item) (item : Item) (judged : Option (JudgedReply I)) (reply : JudgedReply I) (count : ℕ) (old : List WrongReply)
    → AnswersOpen h item → IsFound format settings h item (finding_told judged) → judged ≡ Some reply → IfSome judged (λ r. r.position ≡ count) → count ≡ next_position h
    → GoOnBy format settings h item old (old ++ wrong_of reply.position reply.finding)
told_reply {I} format settings h item judged reply count old opens is some position count-is =
    told_of format settings h item reply.finding reply.position old (old ++ wrong_of reply.position reply.finding) opens
    (subst (λ (o : Option (JudgedReply I)). IsFound format settings h item (finding_told o)) some is)
    (subst (λ (o : Option (JudgedReply I)). IfSome o (λ r. r.position ≡ count)) some position ∙ count-is) refl

-- what it was handed of it
pub handed_item : {I : Type 0} (item : Item) (judged : Option (JudgedReply I)) (reply : JudgedReply I) → judged ≡ Some reply
    → IfSome judged (λ r. item ≡ ClientReply r.exchange r.moment r.reply) → item ≡ item_judged reply
handed_item {I} item judged reply some is = subst (λ (o : Option (JudgedReply I)). IfSome o (λ r. item ≡ ClientReply r.exchange r.moment r.reply)) some is

one_mark : (one other : Mark) → Some one ≡ Some other → one ≡ other
one_mark one other e = cc

pub handed : {I : Type 0} (seen : I → Seen) (format : Format) (settings : Settings) (index : I) (h : List Item) (item : Item) (judged : Option (JudgedReply I)) (reply : JudgedReply I) (count : ℕ)
    → AnswersOpen h item → IsSeenAs format (seen index) h → IsFound format settings h item (finding_told judged) → judged ≡ Some reply → IfSome judged (λ r. r.position ≡ count)
    → count ≡ next_position h → mark_told judged ≡ item_mark format settings h item → IfSome judged (λ r. item ≡ ClientReply r.exchange r.moment r.reply)
    → IfSome judged (λ r. (r.format ≡ format) × (r.settings.now ≡ settings) × (r.index.now ≡ index)) → IsReplyBehind seen h reply
handed {I} seen format settings index h item judged reply count opens known is some position count-is mark-is item-is same =
    let item-of = handed_item item judged reply some item-is in
    let of = subst (λ (o : Option (JudgedReply I)). IfSome o (λ r. (r.format ≡ format) × (r.settings.now ≡ settings) × (r.index.now ≡ index))) some same in
    let found = subst (λ (o : Option (JudgedReply I)). IsFound format settings h item (finding_told o)) some is in
    record {
      position = subst (λ (o : Option (JudgedReply I)). IfSome o (λ r. r.position ≡ count)) some position ∙ count-is;
      index = subst (λ (k : Format). IsSeenAs k (seen reply.index.now) h) (sym of.0) (subst (λ (i : I). IsSeenAs format (seen i) h) (sym of.2) known);
      is_open = subst (λ (i : Item). AnswersOpen h i) item-of opens;
      mark = one_mark reply.mark _
          (subst (λ (k : Format). Some reply.mark ≡ item_mark k reply.settings.now h (item_judged reply)) (sym of.0)
          (subst (λ (s : Settings). Some reply.mark ≡ item_mark format s h (item_judged reply)) (sym of.1)
          (subst (λ (i : Item). Some reply.mark ≡ item_mark format settings h i) item-of
          (subst (λ (o : Option (JudgedReply I)). mark_told o ≡ item_mark format settings h item) some mark-is))));
      found = subst (λ (k : Format). IsFound k reply.settings.now h (item_judged reply) reply.finding) (sym of.0)
          (subst (λ (s : Settings). IsFound format s h (item_judged reply) reply.finding) (sym of.1)
          (subst (λ (i : Item). IsFound format settings h i reply.finding) item-of found));
    }

-- by the settings, and of the item, that are these
pub told_here : (format : Format) (given settings : Settings) (h : List Item) (held item : Item) (old new : List WrongReply) → given ≡ settings → held ≡ item
    → GoOnBy format given h held old new → GoOnBy format settings h item old new
told_here format given settings h held item old new settings-are item-is by =
    subst (λ (s : Settings). GoOnBy format s h item old new) settings-are (subst (λ (i : Item). GoOnBy format given h i old new) item-is by)

goes_on : (format : Format) (settings : Settings) (h : List Item) (item : Item) (old new : List WrongReply) → AreWrongIn format settings h old → GoOnBy format settings h item old new
    → AreWrongIn format settings (item ∷ h) new
goes_on format settings h item old new before (inl by) = inl (subst (λ (ws : List WrongReply). AreWrongIn format settings h ws) (sym by.1) before, by.0)
goes_on format settings h item old new before (inr by) = inr (old, by.0, before, by.1, by.2)

-- once it is noted
pub wrong_goes_on : {I : Type 0} (seen : I → Seen) (j k : Judge I) (settings : Settings) (octets : List ℕ) (format : Format) (h : List Item) (old new : List WrongReply)
    → (w : IsAheadOf seen j settings octets format h old) → GoOnBy format settings h w.ahead.item old new → format_read k.reader ≡ format_read j.reader
    → HasRead seen k settings octets (w.ahead.item ∷ h) → IsSurveying seen k settings octets (w.ahead.item ∷ h) new
wrong_goes_on seen j k settings octets format h old new w by same read = record {
  read = read;
  wrong = of_the_read (λ (f : Format). AreWrongIn f settings (w.ahead.item ∷ h) new) (format_read k.reader) format (same ∙ w.ahead.format_is)
      (goes_on format settings h w.ahead.item old new w.wrong by);
}

-- ---- a fault of the transcript

-- where no opening is read yet there are none, and no items
none_before : (o : Option Format) (octets held : List ℕ) (records : List Record) (h : List Item) (settings : Settings) (wrongs : List WrongReply) → ReadsTo o octets records h held
    → AreWrong o settings h wrongs → o ≡ None → (h ≡ []) × (wrongs ≡ [])
none_before None octets held records h settings wrongs reads wrong is = (reads.1.0, subst (λ (g : List Item). AreWrongIn First settings g wrongs) reads.1.0 (wrong First tt))
none_before (Some format) octets held records h settings wrongs reads wrong is = absurd (some_is_none format is)
  where
    some_is_none : (k : Format) → Some k ≡ None → ⊥
    some_is_none k e = cc

was_none : (old new : Option Format) → ((k : Format) → old ≡ Some k → new ≡ Some k) → new ≡ None → old ≡ None
was_none None new keeps is = refl
was_none (Some k) new keeps is = let e : Some k ≡ None = sym (keeps k refl) ∙ is in cc

broken : (r : RecordReader) (octets : List ℕ) (settings : Settings) (h : List Item) (f : RecordFault) (wrongs : List WrongReply) → AreWrong (format_read r) settings h wrongs
    → (format_read r ≡ None → (h ≡ []) × (wrongs ≡ [])) → MeetsFault r octets h f → IsSurveyOf octets settings h wrongs (Broken (reader_position r) f)
broken r octets settings h f wrongs wrong none (inl begins) =
    let nothing = none begins.1.1.0 in record {
      items = inl (begins.1.1.1, inl (begins.0, begins.1.0), nothing.0);
      wrong = inl (begins.1.1.1, inl (begins.0, begins.1.0), nothing.1);
    }
broken r octets settings h f wrongs wrong none (inr behind) = record {
  items = inr (behind.format, inl behind.breaks, behind.position_is);
  wrong = inr (record {
    format = behind.format;
    history = h;
    are_wrong = wrong behind.format (may_be_read (format_read r) behind.format behind.format_is);
    breaks = inl behind.breaks;
    position_is = behind.position_is;
  });
}

-- the fault that ends the reading: r and s are the reader before it and behind it
pub met_ends : (r s : RecordReader) (octets : List ℕ) (settings : Settings) (records : List Record) (h : List Item) (f : RecordFault) (position : ℕ) (wrongs : List WrongReply) → Agrees r octets records h
    → ((k : Format) → format_read r ≡ Some k → format_read s ≡ Some k) → AreWrong (format_read r) settings h wrongs → MeetsFault s octets h f → position ≡ reader_position s
    → EndsSo (Broken position f) settings octets h wrongs
met_ends r s octets settings records h f position wrongs agrees keeps wrong met is =
    let now : AreWrong (format_read s) settings h wrongs = λ k may. wrong k (might_be_of (format_read r) (format_read s) keeps k may) in
    let none : format_read s ≡ None → (h ≡ []) × (wrongs ≡ []) = λ e. none_before (format_read r) octets (waiting r) records h settings wrongs agrees.reads wrong (was_none (format_read r) (format_read s) keeps e) in
    subst (λ (n : ℕ). EndsSo (Broken n f) settings octets h wrongs) (sym is) (record {
      is_last = not_torn s octets h f met;
      holds = λ more. broken s (octets ++ more) settings h f wrongs now none (met_more s octets more h f met);
    })

-- ---- the end

pub whole_of : (r : RecordReader) (octets : List ℕ) (settings : Settings) (records : List Record) (h : List Item) (wrongs : List WrongReply) → Agrees r octets records h
    → (format : Format) × IsTranscript format octets records h → AreWrong (format_read r) settings h wrongs → IsSurveyOf octets settings h wrongs Whole
whole_of r octets settings records h wrongs agrees is wrong = record {
  items = (is.0, records, is.1);
  wrong = record {
    format = is.0;
    records = records;
    history = h;
    is_transcript = is.1;
    are_wrong = wrong is.0 (may_be_split r octets records records h h [] is.0 agrees is.1);
  };
}

-- octets that are left are torn
torn_of : (r : RecordReader) (octets : List ℕ) (settings : Settings) (records : List Record) (h : List Item) (wrongs : List WrongReply) → Agrees r octets records h
    → AreWrong (format_read r) settings h wrongs → Waits r h → HasUnread r → IsSurveyOf octets settings h wrongs (Broken (reader_position r) fault.Torn)
torn_of r octets settings records h wrongs agrees wrong waits unread = go r.format agrees.reads wrong waits unread
  where
    go : (o : Option Format) → ReadsTo o octets records h (waiting r) → AreWrong o settings h wrongs → WaitsBy o h (waiting r) → HasUnreadBy o (waiting r)
        → IsSurveyOf octets settings h wrongs (Broken (position_by o r.standing.records) fault.Torn)
    go None reads wrong waits unread =
        let nothing = none_before None octets (waiting r) records h settings wrongs reads wrong refl in
        let unfinished = subst (λ (o : List ℕ). IsUnfinishedOpening o) (sym reads.1.1) waits in
        record { items = inl (refl, inr (unfinished, refl), nothing.0); wrong = inl (refl, inr (unfinished, refl), nothing.1) }
    go (Some format) reads wrong waits unread =
        let position-is = ap (λ (n : ℕ). n + 1) agrees.stands.records in record {
          items = inr (format, inr (refl, record { records = records; rest = waiting r; splits = reads; some = unread; torn = waits }), position-is);
          wrong = inr (record {
            format = format;
            history = h;
            are_wrong = wrong format refl;
            breaks = inr (refl, record { records = records; rest = waiting r; splits = reads; some = unread; torn = waits });
            position_is = position-is;
          });
        }

pub end_is : (r : RecordReader) (octets : List ℕ) (settings : Settings) (records : List Record) (h : List Item) (f : RecordFault) (position : ℕ) (wrongs : List WrongReply)
    → Agrees r octets records h → AreWrong (format_read r) settings h wrongs → Waits r h → (f ≡ fault.Torn) ⊎ (r.fault ≡ Some f) → HasUnread r → position ≡ reader_position r
    → IsSurveyOf octets settings h wrongs (Broken position f)
end_is r octets settings records h f position wrongs agrees wrong waits (inl is) unread position-is =
    subst (λ (g : RecordFault). IsSurveyOf octets settings h wrongs (Broken position g)) (sym is)
    (subst (λ (n : ℕ). IsSurveyOf octets settings h wrongs (Broken n fault.Torn)) (sym position-is) (torn_of r octets settings records h wrongs agrees wrong waits unread))
end_is r octets settings records h f position wrongs agrees wrong waits (inr failed) unread position-is = absurd (none_is_some r.fault f agrees.unfailed failed)

-- ---- octets that may go on

record GoesOn (octets : List ℕ) (settings : Settings) (wrongs : List WrongReply) : Type 0 where
  pub ending : Ending
  pub may : MayGoOn ending
  pub are : AreWrongReplies octets settings wrongs ending

cell : (b : ℕ) (held : List ℕ) → b ∷ held ≢ []
cell b held e = cc

-- octets of a record that isn't whole are left
torn_behind : (format : Format) (octets : List ℕ) (settings : Settings) (records : List Record) (h : List Item) (b : ℕ) (held : List ℕ) (wrongs : List WrongReply)
    → Splits format octets records h (b ∷ held) → AreWrongIn format settings h wrongs → IsUnfinished format (line_fault h) (b ∷ held)
    → AreWrongReplies octets settings wrongs (Broken (next_position h) fault.Torn)
torn_behind format octets settings records h b held wrongs splits wrong waits = inr (record {
  format = format;
  history = h;
  are_wrong = wrong;
  breaks = inr (refl, record { records = records; rest = b ∷ held; splits = splits; some = cell b held; torn = waits });
  position_is = refl;
})

ends_behind : (format : Format) (octets : List ℕ) (settings : Settings) (records : List Record) (h : List Item) (held : List ℕ) (wrongs : List WrongReply) → Splits format octets records h held
    → AreWrongIn format settings h wrongs → IsUnfinished format (line_fault h) held → GoesOn octets settings wrongs
ends_behind format octets settings records h [] wrongs splits wrong waits = record {
  ending = Whole;
  may = tt;
  are = record { format = format; records = records; history = h; is_transcript = splits; are_wrong = wrong };
}
ends_behind format octets settings records h (b ∷ held) wrongs splits wrong waits = record {
  ending = Broken (next_position h) fault.Torn;
  may = refl;
  are = torn_behind format octets settings records h b held wrongs splits wrong waits;
}

may_go_on : (r : RecordReader) (octets : List ℕ) (settings : Settings) (records : List Record) (h : List Item) (wrongs : List WrongReply) → Agrees r octets records h
    → AreWrong (format_read r) settings h wrongs → Waits r h → GoesOn octets settings wrongs
may_go_on r octets settings records h wrongs agrees wrong waits = go r.format agrees.reads wrong waits
  where
    go : (o : Option Format) → ReadsTo o octets records h (waiting r) → AreWrong o settings h wrongs → WaitsBy o h (waiting r) → GoesOn octets settings wrongs
    go None reads wrong waits = record {
      ending = Broken 0 fault.Torn;
      may = refl;
      are = inl (refl, inr (subst (λ (o : List ℕ). IsUnfinishedOpening o) (sym reads.1.1) waits, refl), (none_before None octets (waiting r) records h settings wrongs reads wrong refl).1);
    }
    go (Some format) reads wrong waits = ends_behind format octets settings records h (waiting r) wrongs reads (wrong format refl) waits

-- a survey that is open
pub open_is : {I : Type 0} (seen : I → Seen) (reach : SurveyStage I) (settings : Settings) (octets : List ℕ) (h : List Item) (wrongs : List WrongReply) (judge : Judge I) → reach ≡ Open judge
    → SurveysBy seen reach settings octets h wrongs → IsSurveyed seen judge settings octets h wrongs
open_is {I} seen reach settings octets h wrongs judge is surveys = subst (λ (s : SurveyStage I). SurveysBy seen s settings octets h wrongs) is surveys

-- ---- what is counted

counted_nothing : (o : Option Format) (settings : Settings) (h : List Item) (counts : Counts) → ((k : Format) → MayBeOf o k → counts ≡ counts_of k settings h) → h ≡ [] → counts ≡ no_counts
counted_nothing None settings h counts are none = are First tt ∙ ap (counts_of First settings) none
counted_nothing (Some format) settings h counts are none = are format refl ∙ ap (counts_of format settings) none

pub open_counts_all : {I : Type 0} (seen : I → Seen) (reach : SurveyStage I) (settings : Settings) (octets : List ℕ) (h : List Item) (wrongs : List WrongReply) (judge : Judge I) → reach ≡ Open judge
    → SurveysBy seen reach settings octets h wrongs → AreCounted octets settings h judge.counts
open_counts_all seen reach settings octets h wrongs judge is surveys =
    let w = open_is seen reach settings octets h wrongs judge is surveys in
    let read = w.surveying.read in
    record {
      read = λ format records rest splits. read.counts format (may_be_split judge.reader octets read.records records h h rest format read.reads splits);
      nothing = counted_nothing (format_read judge.reader) settings h judge.counts read.counts;
    }

-- ---- what is counted where none is wrong

not_empty : (earlier : List WrongReply) (wrong : WrongReply) → [] ≡ earlier ++ wrong ∷ [] → ⊥
not_empty [] wrong e = cc
not_empty (one ∷ earlier) wrong e = cc

-- then every reply is right
none_wrong : (format : Format) (settings : Settings) (h : List Item) → AreWrongIn format settings h [] → AllRight format settings h
none_wrong format settings [] a = tt
none_wrong format settings (item ∷ h) (inl a) = (none_wrong format settings h a.0, a.1)
none_wrong format settings (item ∷ h) (inr a) = absurd (not_empty a.0 (wrong_after h a.1) a.4)

torn_is_whole : (position : ℕ) → Broken position fault.Torn ≡ Whole → ⊥
torn_is_whole position e = cc

counted_behind : (format : Format) (octets : List ℕ) (settings : Settings) (records : List Record) (h : List Item) (held : List ℕ) → Splits format octets records h held
    → AreWrongIn format settings h [] → IsUnfinished format (line_fault h) held → AreWrongReplies octets settings [] Whole → IsVerdict octets settings (Yes (counts_of format settings h))
counted_behind format octets settings records h [] splits wrong waits whole =
    record { format = format; records = records; history = h; is_transcript = splits; all_right = none_wrong format settings h wrong; counts_are = refl }
counted_behind format octets settings records h (b ∷ held) splits wrong waits whole =
    absurd (torn_is_whole (next_position h) (one_list octets settings [] [] (Broken (next_position h) fault.Torn) Whole (torn_behind format octets settings records h b held [] splits wrong waits) whole).1)

-- it is what their yes says
pub counted_whole : (octets : List ℕ) (settings : Settings) (h : List Item) (counts : Counts) → IsSurveyOf octets settings h [] Whole → AreCounted octets settings h counts
    → IsVerdict octets settings (Yes counts)
counted_whole octets settings h counts is counts-are =
    let w = is.wrong in
    let items = is.items in
    let one = one_reading w.format octets w.records items.1 w.history h w.is_transcript (same_format octets w.format items.0 w.records items.1 w.history h [] [] w.is_transcript items.2) in
    record {
      format = w.format;
      records = w.records;
      history = w.history;
      is_transcript = w.is_transcript;
      all_right = none_wrong w.format settings w.history w.are_wrong;
      counts_are = counts-are.read w.format w.records [] (subst (λ (g : List Item). Splits w.format octets w.records g []) one.1 w.is_transcript)
          ∙ sym (ap (counts_of w.format settings) one.1);
    }

pub counted : (r : RecordReader) (octets : List ℕ) (settings : Settings) (records : List Record) (h : List Item) (counts : Counts) → Agrees r octets records h
    → AreWrong (format_read r) settings h [] → Waits r h → ((k : Format) → MayBeOf (format_read r) k → counts ≡ counts_of k settings h) → AreWrongReplies octets settings [] Whole
    → IsVerdict octets settings (Yes counts)
counted r octets settings records h counts agrees wrong waits counts-are whole = go r.format agrees.reads wrong waits counts-are
  where
    go : (o : Option Format) → ReadsTo o octets records h (waiting r) → AreWrong o settings h [] → WaitsBy o h (waiting r) → ((k : Format) → MayBeOf o k → counts ≡ counts_of k settings h)
        → IsVerdict octets settings (Yes counts)
    go None reads wrong waits are =
        absurd (torn_is_whole 0
        (one_list octets settings [] [] (Broken 0 fault.Torn) Whole (inl (refl, inr (subst (λ (o : List ℕ). IsUnfinishedOpening o) (sym reads.1.1) waits, refl), refl)) whole).1)
    go (Some format) reads wrong waits are =
        subst (λ (c : Counts). IsVerdict octets settings (Yes c)) (sym (are format refl)) (counted_behind format octets settings records h (waiting r) reads (wrong format refl) waits whole)

pub open_counts : {I : Type 0} (seen : I → Seen) (reach : SurveyStage I) (settings : Settings) (octets : List ℕ) (h : List Item) (judge : Judge I) → reach ≡ Open judge
    → SurveysBy seen reach settings octets h [] → AreWrongReplies octets settings [] Whole → IsVerdict octets settings (Yes judge.counts)
open_counts seen reach settings octets h judge is surveys whole =
    let w = open_is seen reach settings octets h [] judge is surveys in
    let s = w.surveying in counted judge.reader octets settings s.read.records h judge.counts s.read.reads s.wrong w.waits s.read.counts whole

-- ---- where it may go on

some_is_none : (e : Ending) → Some e ≡ None → ⊥
some_is_none e is = cc

open_is_ended : {I : Type 0} (judge : Judge I) (e : Ending) → Open judge ≡ Ended e → ⊥
open_is_ended judge e is = cc

-- where no ending holds yet, that of the octets may go on, and these are their wrong replies
pub open_may_go_on : {I : Type 0} (seen : I → Seen) (reach : SurveyStage I) (settings : Settings) (octets : List ℕ) (h : List Item) (wrongs all : List WrongReply) (ending : Ending)
    → ended_by reach ≡ None → SurveysBy seen reach settings octets h wrongs → AreWrongReplies octets settings all ending → MayGoOn ending × (all ≡ wrongs)
open_may_go_on seen (Open judge) settings octets h wrongs all ending none w are =
    let k = w.surveying in
    let other = may_go_on judge.reader octets settings k.read.records h wrongs k.read.reads k.wrong w.waits in
    let same = one_list octets settings wrongs all other.ending ending other.are are in (subst MayGoOn same.1 other.may, sym same.0)
open_may_go_on seen (Ended known) settings octets h wrongs all ending none w are = absurd (some_is_none known none)
open_may_go_on seen Failed settings octets h wrongs all ending none w are = absurd w

-- ---- an ending that holds

-- is that of the octets
pub ended_is : {I : Type 0} (seen : I → Seen) (reach : SurveyStage I) (settings : Settings) (octets : List ℕ) (h : List Item) (wrongs : List WrongReply) (ending : Ending) → reach ≡ Ended ending
    → SurveysBy seen reach settings octets h wrongs → IsSurveyOf octets settings h wrongs ending
ended_is {I} seen reach settings octets h wrongs ending is surveys =
    let ends = subst (λ (s : SurveyStage I). SurveysBy seen s settings octets h wrongs) is surveys in
    subst (λ (o : List ℕ). IsSurveyOf o settings h wrongs ending) (append-nil octets) (ends.holds [])

-- holds on
pub ended_goes_on : {I : Type 0} (seen : I → Seen) (reach : SurveyStage I) (settings : Settings) (octets more : List ℕ) (h : List Item) (wrongs : List WrongReply) (ending : Ending) → reach ≡ Ended ending
    → SurveysBy seen reach settings octets h wrongs → SurveysBy seen reach settings (octets ++ more) h wrongs
ended_goes_on seen (Open judge) settings octets more h wrongs ending is surveys = absurd (open_is_ended judge ending is)
ended_goes_on seen (Ended known) settings octets more h wrongs ending is surveys = record {
  is_last = surveys.is_last;
  holds = λ later. subst (λ (o : List ℕ). IsSurveyOf o settings h wrongs known) (sym (append_assoc octets more later)) (surveys.holds (more ++ later));
}
ended_goes_on seen Failed settings octets more h wrongs ending is surveys = absurd surveys
