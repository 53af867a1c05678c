-- What one record more makes of a judgement, and what its end.
use Rattle.std.proofs.Common.{◌≡◌, ◌≢◌, ℕ, ◌+◌, Bool, false, List, [], arith, ◌∷◌, ◌++◌, Option, Some, None, Result, refl, sym, ap, subst, ◌∙◌, ◌⊎◌, inl, inr}
use Rattle.std.specs.Prelude.{IsSome}
use Rattle.std.specs.declared.alloc.AllocError.{AllocError}
use Rattle.hc_transcript.specs.declared.fault.RecordFault.{RecordFault}
use Rattle.hc_transcript.specs.declared.fault.RecordFault.TheVariants as fault
use Rattle.hc_transcript.specs.declared.format.Format.{Format}
use Rattle.hc_transcript.specs.declared.format.Format.TheVariants.{First, Second}
use Rattle.hc_transcript.specs.declared.reader.RecordReader.{RecordReader}
use Rattle.hc_transcript.specs.declared.record.Record.{Record}
use Rattle.hc_transcript.specs.Records.{opening}
use Rattle.hc_head.specs.declared.head.ResponseHead.{ResponseHead}
use Rattle.hc_framing.specs.declared.message.Message.{Message}
use Rattle.hc_transcript.specs.Items.{Item, Exchange}
use Rattle.hc_transcript.specs.History.{exchange_of, next_position, last_moment, last_exchange, last_forward}
use Rattle.hc_transcript.specs.Checks.{line_fault}
use Rattle.hc_transcript.specs.Transcript.{Splits, IsTranscript}
use Rattle.hc_transcript.specs.Malformed.{IsUnfinishedOpening, IsUnfinished, BreaksAfter}
use Rattle.hc_transcript.specs.Reader.{Agrees, ReadsTo, WaitsBy, Waits, MeetsFault, HasUnread, HasUnreadBy, format_read, position_by, reader_position, records_read, waiting}
use Rattle.hc_transcript.proofs.CheckLemmas.{no_torn_check}
use Rattle.hc_transcript.proofs.OnceLemmas.{one_opening, broken_more, no_opening_more}
use Rattle.hc_history.specs.declared.reasons.Reason.{Reason}
use Rattle.hc_history.specs.declared.settings.Settings.{Settings}
use Rattle.hc_history.specs.declared.verdicts.Counts.{Counts}
use Rattle.hc_history.specs.declared.verdicts.Finding.{Finding}
use Rattle.hc_history.specs.declared.verdicts.Finding.TheVariants.{Right, Wrong}
use Rattle.hc_history.specs.declared.verdicts.Verdict.{Verdict}
use Rattle.hc_history.specs.declared.verdicts.Verdict.TheVariants.{Yes, No, Malformed}
use Rattle.hc_status.specs.declared.marks.Mark.{Mark}
use Rattle.hc_history.specs.Counting.{counts_of}
use Rattle.hc_history.specs.Marks.{item_mark, mark_by, mark_to, reply_mark}
use Rattle.hc_history.specs.Seen.{has_forward_in}
use Rattle.hc_history.specs.Windows.{has_forward}
use Rattle.hc_history.proofs.AllowedLemmas.{marked_strictly}
use Rattle.hc_history.proofs.NoteLemmas.{forwarded_in_window}
use Rattle.hc_history.specs.Found.{IsFound, AnswersOpen}
use Rattle.hc_history.specs.Right.{AllRight}
use Rattle.hc_history.specs.Seen.{Seen}
use Rattle.hc_history.specs.declared.verdicts.Counts.{Counts}
use Rattle.hc_history.specs.Verdicts.{IsVerdict, IsAllRight}
use Rattle.hc_history.proofs.FoundLemmas.{found_right, found_wrong, follows_open}
use Rattle.hc_history.proofs.VerdictLemmas.{no_stays, one_verdict}
use Rattle.hc_audit.specs.declared.judge.Judge.{Judge}
use Rattle.hc_audit.specs.declared.next.Next.{Next}
use Rattle.hc_audit.specs.Standing.{MayChange, Stands}
use Rattle.hc_audit.specs.Judging.{MayBeOf, AreRight, HasRead, IsAhead, IsJudging, IsWaiting, GivesNext, next_behind}

-- ---- nothing read yet

no_opening_yet : (format : Format) (rest : List ℕ) → [] ≡ opening format ++ rest → ⊥
no_opening_yet First rest e = cc
no_opening_yet Second rest e = cc

some_opening : opening First ≢ []
some_opening e = cc

pub fresh_waits : (r : RecordReader) → Agrees r [] [] [] → Waits r []
fresh_waits r agrees = go r.format agrees.reads
  where
    go : (o : Option Format) → ReadsTo o [] [] [] (waiting r) → WaitsBy o [] (waiting r)
    go None reads = subst (λ (held : List ℕ). IsUnfinishedOpening held) reads.1.1 (First, opening First, refl, some_opening)
    go (Some format) reads = absurd (no_opening_yet format _ reads.octets_are)

-- ---- the format

-- what the octets may be of now, they might be of before
pub might_be_of : (old new : Option Format) → ((format : Format) → old ≡ Some format → new ≡ Some format) → (format : Format) → MayBeOf new format → MayBeOf old format
might_be_of None new keeps format may = tt
might_be_of (Some read) new keeps format may = subst (λ (o : Option Format). MayBeOf o format) (keeps read refl) may

-- a format that was read is what the octets may be of
pub may_be_read : (read : Option Format) (format : Format) → read ≡ Some format → MayBeOf read format
may_be_read read format is = subst (λ (o : Option Format). MayBeOf o format) (sym is) refl

-- records that are read of the octets are of a format that they may be of
pub may_be_split : (r : RecordReader) (octets : List ℕ) (records others : List Record) (h g : List Item) (rest : List ℕ) (format : Format) → Agrees r octets records h
    → Splits format octets others g rest → MayBeOf (format_read r) format
may_be_split r octets records others h g rest format agrees splits = go r.format agrees.reads
  where
    go : (o : Option Format) → ReadsTo o octets records h (waiting r) → MayBeOf o format
    go None reads = tt
    go (Some read) reads = one_opening octets read format records others h g (waiting r) rest reads splits

-- ---- a fault of the transcript

malformed : (r : RecordReader) (octets : List ℕ) (settings : Settings) (h : List Item) (f : RecordFault) → AreRight (format_read r) settings h → MeetsFault r octets h f
    → IsVerdict octets settings (Malformed (reader_position r) f)
malformed r octets settings h f right (inl begins) = inl (begins.1.1.1, inl (begins.0, begins.1.0))
malformed r octets settings h f right (inr behind) = inr (record {
  format = behind.format;
  history = h;
  all_right = right behind.format (may_be_read (format_read r) behind.format behind.format_is);
  breaks = inl behind.breaks;
  position_is = behind.position_is;
})

pub met_more : (r : RecordReader) (octets more : List ℕ) (h : List Item) (f : RecordFault) → MeetsFault r octets h f → MeetsFault r (octets ++ more) h f
met_more r octets more h f (inl begins) = inl (no_opening_more octets more begins.0, begins.1)
met_more r octets more h f (inr behind) = inr (record {
  format = behind.format;
  format_is = behind.format_is;
  breaks = broken_more behind.format octets more h f behind.breaks;
  position_is = behind.position_is;
})

torn_breaks_nothing : (format : Format) (octets : List ℕ) (h : List Item) → ¬ (BreaksAfter format octets h fault.Torn)
torn_breaks_nothing format octets h b = no_torn_check b.breaks.line (last_moment h) (last_exchange h) (last_forward h) _ _ _ b.breaks.fails

pub not_torn : (r : RecordReader) (octets : List ℕ) (h : List Item) (f : RecordFault) → MeetsFault r octets h f → f ≢ fault.Torn
not_torn r octets h f (inl begins) torn = let other : fault.Opening ≡ fault.Torn = sym begins.1.0 ∙ torn in cc
not_torn r octets h f (inr behind) torn =
    torn_breaks_nothing behind.format octets h (subst (λ (g : RecordFault). BreaksAfter behind.format octets h g) torn behind.breaks)

-- the fault that ends the reading
pub met_stands : (r : RecordReader) (octets : List ℕ) (settings : Settings) (h : List Item) (f : RecordFault) (position : ℕ) → AreRight (format_read r) settings h → MeetsFault r octets h f
    → position ≡ reader_position r → Stands (Malformed position f) settings octets
met_stands r octets settings h f position right met is = subst (λ (n : ℕ). Stands (Malformed n f) settings octets) (sym is) (record {
  is_final = not_torn r octets h f met;
  holds = λ more. malformed r (octets ++ more) settings h f right (met_more r octets more h f met);
})

-- a fault that isn't memory
next_gives : {I : Type 0} (seen : I → Seen) (j : Judge I) (settings : Settings) (octets : List ℕ) (h : List Item) (f : RecordFault) (position : ℕ) → position ≡ reader_position j.reader
    → (f ≢ fault.Memory → MeetsFault j.reader octets h f) → GivesNext seen (next_behind f position) j settings octets h
next_gives seen j settings octets h fault.Memory position is meets = tt
next_gives seen j settings octets h fault.Opening position is meets = (meets (λ e. cc), is)
next_gives seen j settings octets h fault.Line position is meets = (meets (λ e. cc), is)
next_gives seen j settings octets h fault.Torn position is meets = (meets (λ e. cc), is)
next_gives seen j settings octets h fault.MomentBack position is meets = (meets (λ e. cc), is)
next_gives seen j settings octets h fault.Number position is meets = (meets (λ e. cc), is)
next_gives seen j settings octets h fault.NothingOpen position is meets = (meets (λ e. cc), is)
next_gives seen j settings octets h fault.Message position is meets = (meets (λ e. cc), is)
next_gives seen j settings octets h fault.TooLong position is meets = (meets (λ e. cc), is)
next_gives seen j settings octets h fault.Cause position is meets = (meets (λ e. cc), is)

pub next_is : {I : Type 0} (seen : I → Seen) (j : Judge I) (settings : Settings) (octets : List ℕ) (h : List Item) (f : RecordFault) (position : ℕ) (next : Result Next AllocError)
    → next ≡ next_behind f position → position ≡ reader_position j.reader → (f ≢ fault.Memory → MeetsFault j.reader octets h f) → GivesNext seen next j settings octets h
next_is seen j settings octets h f position next is position-is meets =
    subst (λ (n : Result Next AllocError). GivesNext seen n j settings octets h) (sym is) (next_gives seen j settings octets h f position position-is meets)

-- ---- a record more

pub found_here : (format : Format) (given settings : Settings) (held item : Item) (h : List Item) (finding found : Finding) → given ≡ settings → held ≡ item → finding ≡ found
    → IsFound format given h held finding → IsFound format settings h item found
found_here format given settings held item h finding found settings-are item-is found-is is =
    subst (λ (s : Settings). IsFound format s h item found) settings-are
    (subst (λ (i : Item). IsFound format given h i found) item-is (subst (λ (f : Finding). IsFound format given h held f) found-is is))

-- and its mark
pub marked_here : (format : Format) (given settings : Settings) (held item : Item) (h : List Item) (mark : Option Mark) → given ≡ settings → held ≡ item
    → mark ≡ item_mark format given h held → mark ≡ item_mark format settings h item
marked_here format given settings held item h mark settings-are item-is is = is ∙ (λ i. item_mark format (settings-are i) h (item-is i))

-- where no mark is inferred, it is the reply's own
pub own_mark : (format : Format) (settings : Settings) (o : Option Exchange) (reply : Message ResponseHead) (h : List Item) → settings.allowed.inferred_marks ≡ false
    → reply_mark reply ≡ mark_to format settings o reply h
own_mark format settings None reply h none = refl
own_mark format settings (Some exchange) reply h none = sym (marked_strictly format settings.allowed (has_forward exchange h) reply none).1

-- else it takes whether a forward was made for the exchange
pub mark_known : (format : Format) (settings : Settings) (e : ℕ) (reply : Message ResponseHead) (h : List Item) (o : Option Exchange) → exchange_of e h ≡ o → IsSome o
    → mark_by format settings.allowed (has_forward_in e h) reply ≡ mark_to format settings o reply h
mark_known format settings e reply h None is some = cc
mark_known format settings e reply h (Some exchange) is some = ap (λ (b : Bool). mark_by format settings.allowed b reply) (forwarded_in_window e h exchange is)

-- what a reader has read of the octets that told the format
splits_of : (r : RecordReader) (format : Format) (octets : List ℕ) (records : List Record) (h : List Item) → format_read r ≡ Some format → Agrees r octets records h
    → Splits format octets records h (waiting r)
splits_of r format octets records h is agrees = subst (λ (o : Option Format). ReadsTo o octets records h (waiting r)) is agrees.reads

-- what holds in the formats that the octets might be of before holds in the one that was read since
pub in_the_read : (P : Format → Type 0) (old new : Option Format) (format : Format) → ((k : Format) → old ≡ Some k → new ≡ Some k) → new ≡ Some format → ((k : Format) → MayBeOf old k → P k) → P format
in_the_read P old new format keeps is holds = holds format (might_be_of old new keeps format (may_be_read new format is))

-- what holds of the format that was read holds of all that the octets may be of
pub of_the_read : (P : Format → Type 0) (read : Option Format) (format : Format) → read ≡ Some format → P format → (other : Format) → MayBeOf read other → P other
of_the_read P read format is holds other may = subst P (subst (λ (o : Option Format). MayBeOf o other) is may) holds

-- one record more, of which the index and the counts don't know yet
module _ {I : Type 0} (seen : I → Seen) (j : Judge I) (settings : Settings) (octets : List ℕ) (h : List Item) (format : Format) (a : IsAhead seen j settings octets h format) where
  pub ahead_open : AnswersOpen h a.item
  ahead_open = follows_open format h a.one a.item (splits_of j.reader format octets (a.one ∷ a.records) (a.item ∷ h) a.format_is a.reads).are_read.1

  pub ahead_position : records_read j.reader ≡ next_position h
  ahead_position = omega (arith, a.reads.stands.records)

  pub wrong_stands : (why : Reason) (position : ℕ) → AllRight format settings h → IsFound format settings h a.item (Wrong why) → position ≡ records_read j.reader → Stands (No position why) settings octets
  wrong_stands why position right found position-is = record {
    is_final = tt;
    holds = λ more. no_stays octets more settings position why (record {
      format = format;
      records = a.one ∷ a.records;
      history = h;
      item = a.item;
      rest = waiting j.reader;
      splits = splits_of j.reader format octets (a.one ∷ a.records) (a.item ∷ h) a.format_is a.reads;
      all_right = right;
      is_wrong = found_wrong format settings h a.item why ahead_open found;
      position_is = position-is ∙ ahead_position;
    });
  }

  pub right_goes_on : (k : Judge I) → AllRight format settings h → IsFound format settings h a.item Right → format_read k.reader ≡ format_read j.reader → HasRead seen k settings octets (a.item ∷ h)
      → IsJudging seen k settings octets
  right_goes_on k right found same read = record {
    history = a.item ∷ h;
    read = read;
    right = of_the_read (λ (f : Format). AllRight f settings (a.item ∷ h)) (format_read k.reader) format (same ∙ a.format_is)
        (right, found_right format settings h a.item ahead_open found);
  }

-- ---- the end

pub yes_of : (r : RecordReader) (octets : List ℕ) (settings : Settings) (records : List Record) (h : List Item) (counts : Counts) → Agrees r octets records h
    → (format : Format) × IsTranscript format octets records h → AreRight (format_read r) settings h
    → ((k : Format) → MayBeOf (format_read r) k → counts ≡ counts_of k settings h) → IsVerdict octets settings (Yes counts)
yes_of r octets settings records h counts agrees is right counts-are = record {
  format = is.0;
  records = records;
  history = h;
  is_transcript = is.1;
  all_right = right is.0 (may_be_split r octets records records h h [] is.0 agrees is.1);
  counts_are = counts-are is.0 (may_be_split r octets records records h h [] is.0 agrees is.1);
}

-- octets that are left are torn
pub torn_of : (r : RecordReader) (octets : List ℕ) (settings : Settings) (records : List Record) (h : List Item) → Agrees r octets records h → AreRight (format_read r) settings h → Waits r h
    → HasUnread r → IsVerdict octets settings (Malformed (reader_position r) fault.Torn)
torn_of r octets settings records h agrees right waits unread = go r.format agrees.reads right waits unread
  where
    go : (o : Option Format) → ReadsTo o octets records h (waiting r) → AreRight o settings h → WaitsBy o h (waiting r) → HasUnreadBy o (waiting r)
        → IsVerdict octets settings (Malformed (position_by o r.standing.records) fault.Torn)
    go None reads right waits unread = inl (refl, inr (subst (λ (o : List ℕ). IsUnfinishedOpening o) (sym reads.1.1) waits, refl))
    go (Some format) reads right waits unread =
        inr (record {
          format = format;
          history = h;
          all_right = right format refl;
          breaks = inr (refl, record { records = records; rest = waiting r; splits = reads; some = unread; torn = waits });
          position_is = ap (λ (n : ℕ). n + 1) agrees.stands.records;
        })

pub none_is_some : (o : Option RecordFault) (f : RecordFault) → o ≡ None → o ≡ Some f → ⊥
none_is_some o f none some = cc

pub end_is : (r : RecordReader) (octets : List ℕ) (settings : Settings) (records : List Record) (h : List Item) (f : RecordFault) (position : ℕ)
    → Agrees r octets records h → AreRight (format_read r) settings h → Waits r h → (f ≡ fault.Torn) ⊎ (r.fault ≡ Some f) → HasUnread r → position ≡ reader_position r
    → IsVerdict octets settings (Malformed position f)
end_is r octets settings records h f position agrees right waits (inl is) unread position-is =
    subst (λ (g : RecordFault). IsVerdict octets settings (Malformed position g)) (sym is)
    (subst (λ (n : ℕ). IsVerdict octets settings (Malformed n fault.Torn)) (sym position-is) (torn_of r octets settings records h agrees right waits unread))
end_is r octets settings records h f position agrees right waits (inr failed) unread position-is = absurd (none_is_some r.fault f agrees.unfailed failed)

-- a transcript whose replies are all right
pub whole_is_right : (r : RecordReader) (octets : List ℕ) (settings : Settings) (records : List Record) (h : List Item) (counts : Counts) → Agrees r octets records h
    → (format : Format) × IsTranscript format octets records h → AreRight (format_read r) settings h
    → ((format : Format) → MayBeOf (format_read r) format → counts ≡ counts_of format settings h) → IsAllRight octets settings counts
whole_is_right r octets settings records h counts agrees is right are =
    let may = may_be_split r octets records records h h [] is.0 agrees is.1 in
    record { format = is.0; records = records; history = h; is_transcript = is.1; all_right = right is.0 may; counts_are = are is.0 may }

-- ---- what octets are that may go on

record MayGoOn (octets : List ℕ) (settings : Settings) : Type 0 where
  pub verdict : Verdict
  pub may : MayChange verdict
  pub is : IsVerdict octets settings verdict

cell : (b : ℕ) (held : List ℕ) → b ∷ held ≢ []
cell b held e = cc

ends_behind : (format : Format) (octets : List ℕ) (settings : Settings) (records : List Record) (h : List Item) (held : List ℕ) → Splits format octets records h held
    → AllRight format settings h → IsUnfinished format (line_fault h) held → MayGoOn octets settings
ends_behind format octets settings records h [] splits right waits = record {
  verdict = Yes (counts_of format settings h);
  may = tt;
  is = record { format = format; records = records; history = h; is_transcript = splits; all_right = right; counts_are = refl };
}
ends_behind format octets settings records h (b ∷ held) splits right waits = record {
  verdict = Malformed (next_position h) fault.Torn;
  may = refl;
  is = inr (record {
    format = format;
    history = h;
    all_right = right;
    breaks = inr (refl, record { records = records; rest = b ∷ held; splits = splits; some = cell b held; torn = waits });
    position_is = refl;
  });
}

may_go_on : (r : RecordReader) (octets : List ℕ) (settings : Settings) (records : List Record) (h : List Item) → Agrees r octets records h → AreRight (format_read r) settings h → Waits r h
    → MayGoOn octets settings
may_go_on r octets settings records h agrees right waits = go r.format agrees.reads right waits
  where
    go : (o : Option Format) → ReadsTo o octets records h (waiting r) → AreRight o settings h → WaitsBy o h (waiting r) → MayGoOn octets settings
    go None reads right waits = record {
      verdict = Malformed 0 fault.Torn;
      may = refl;
      is = inl (refl, inr (subst (λ (o : List ℕ). IsUnfinishedOpening o) (sym reads.1.1) waits, refl));
    }
    go (Some format) reads right waits = ends_behind format octets settings records h (waiting r) reads (right format refl) waits

pub may_change : {I : Type 0} (seen : I → Seen) (j : Judge I) (octets : List ℕ) (settings : Settings) (verdict : Verdict) → IsWaiting seen j settings octets → IsVerdict octets settings verdict
    → MayChange verdict
may_change seen j octets settings verdict w is =
    let k = w.judging in
    let other = may_go_on j.reader octets settings k.read.records k.history k.read.reads k.right w.waits in
    subst MayChange (one_verdict octets settings other.verdict verdict other.is is) other.may
