-- All wrong replies of octets begin with the verdict, are one list, and go on from those of a front.
use Rattle.std.proofs.Common.{◌≡◌, ℕ, ◌⊎◌, List, [], ◌∷◌, ◌++◌, refl, sym, ap, subst, ◌∙◌, inl, inr, append_assoc}
use Rattle.std.proofs.lemmas.List.{append-nil}
use Rattle.hc_transcript.specs.declared.fault.RecordFault.{RecordFault}
use Rattle.hc_transcript.specs.declared.format.Format.{Format}
use Rattle.hc_transcript.specs.declared.record.Record.{Record}
use Rattle.hc_transcript.specs.Records.{opening, record_text, records_text}
use Rattle.hc_transcript.specs.Items.{Item}
use Rattle.hc_transcript.specs.History.{next_position}
use Rattle.hc_transcript.specs.Malformed.{BreaksOpening}
use Rattle.hc_transcript.specs.Transcript.{Splits}
use Rattle.hc_transcript.proofs.OnceLemmas.{splits_more, one_opening, same_format, one as one_reading, unfinished_last}
use Rattle.hc_history.specs.declared.reasons.Reason.{Reason}
use Rattle.hc_history.specs.declared.settings.Settings.{Settings}
use Rattle.hc_history.specs.declared.verdicts.Counts.{Counts}
use Rattle.hc_history.specs.declared.verdicts.Verdict.TheVariants.{Yes, No, Malformed}
use Rattle.hc_history.specs.declared.wrong.WrongReply.{WrongReply}
use Rattle.hc_history.specs.declared.wrong.Ending.{Ending}
use Rattle.hc_history.specs.declared.wrong.Ending.TheVariants.{Whole, Broken}
use Rattle.hc_history.specs.Counting.{counts_of}
use Rattle.hc_history.specs.Right.{IsWrong, AllRight}
use Rattle.hc_history.specs.Verdicts.{IsWrongAt, IsVerdict}
use Rattle.hc_history.specs.WrongReplies.{wrong_after, AreWrongIn, AreWrongInWhole, AreWrongBefore, AreWrongReplies}
use Rattle.hc_history.proofs.VerdictLemmas.{right_wrong, wrong_once, nothing_unfinished, last_read, break_read, opening_unread, one_opening_fault, one_break_behind, behind_is_no_transcript}

-- ---- the wrong replies of a history

-- they are one list
one_in : (format : Format) (settings : Settings) (h : List Item) (wrongs others : List WrongReply) → AreWrongIn format settings h wrongs → AreWrongIn format settings h others → wrongs ≡ others
one_in format settings [] wrongs others a b = a ∙ sym b
one_in format settings (item ∷ h) wrongs others (inl a) (inl b) = one_in format settings h wrongs others a.0 b.0
one_in format settings (item ∷ h) wrongs others (inl a) (inr b) = absurd (right_wrong format settings h item b.1 a.1 b.3)
one_in format settings (item ∷ h) wrongs others (inr a) (inl b) = absurd (right_wrong format settings h item a.1 b.1 a.3)
one_in format settings (item ∷ h) wrongs others (inr a) (inr b) =
    a.4 ∙ ap (λ (ws : List WrongReply). ws ++ wrong_after h a.1 ∷ []) (one_in format settings h a.0 b.0 a.2 b.2)
    ∙ ap (λ (why : Reason). b.0 ++ wrong_after h why ∷ []) (wrong_once format settings h item a.1 b.1 a.3 b.3) ∙ sym b.4

-- behind more items they go on
later_in : (format : Format) (settings : Settings) (items h : List Item) (wrongs others : List WrongReply) → AreWrongIn format settings h wrongs → AreWrongIn format settings (items ++ h) others
    → (later : List WrongReply) × (others ≡ wrongs ++ later)
later_in format settings [] h wrongs others a b = ([], one_in format settings h others wrongs b a ∙ sym (append-nil wrongs))
later_in format settings (item ∷ items) h wrongs others a (inl b) = later_in format settings items h wrongs others a b.0
later_in format settings (item ∷ items) h wrongs others a (inr b) =
    let before = later_in format settings items h wrongs b.0 a b.2 in
    let one = wrong_after (items ++ h) b.1 ∷ [] in
    (before.0 ++ one, b.4 ∙ ap (λ (ws : List WrongReply). ws ++ one) before.1 ∙ append_assoc wrongs before.0 one)

not_empty : (earlier : List WrongReply) (wrong : WrongReply) → [] ≡ earlier ++ wrong ∷ [] → ⊥
not_empty [] wrong e = cc
not_empty (one ∷ earlier) wrong e = cc

-- where there is none, every reply is right
none_in : (format : Format) (settings : Settings) (h : List Item) → AreWrongIn format settings h [] → AllRight format settings h
none_in format settings [] a = tt
none_in format settings (item ∷ h) (inl a) = (none_in format settings h a.0, a.1)
none_in format settings (item ∷ h) (inr a) = absurd (not_empty a.0 (wrong_after h a.1) a.4)

-- the first stands behind right ones
record StandsFirst (format : Format) (settings : Settings) (h : List Item) (wrong : WrongReply) : Type 0 where
  later : List Item
  item : Item
  earlier : List Item
  history_is : h ≡ later ++ item ∷ earlier
  all_right : AllRight format settings earlier
  is_wrong : IsWrong format settings earlier item wrong.reason
  position_is : wrong.position ≡ next_position earlier

first_behind : (format : Format) (settings : Settings) (item : Item) (h : List Item) (wrong : WrongReply) → StandsFirst format settings h wrong → StandsFirst format settings (item ∷ h) wrong
first_behind format settings item h wrong first = record {
  later = item ∷ first.later;
  item = first.item;
  earlier = first.earlier;
  history_is = ap (λ (t : List Item). item ∷ t) first.history_is;
  all_right = first.all_right;
  is_wrong = first.is_wrong;
  position_is = first.position_is;
}

-- where none was wrong before, it is the newest item
first_here : (format : Format) (settings : Settings) (item : Item) (h : List Item) (why : Reason) (wrong : WrongReply) → AllRight format settings h → IsWrong format settings h item why
    → wrong ≡ wrong_after h why → StandsFirst format settings (item ∷ h) wrong
first_here format settings item h why wrong right is-wrong same = record {
  later = [];
  item = item;
  earlier = h;
  history_is = refl;
  all_right = right;
  is_wrong = subst (λ (w : WrongReply). IsWrong format settings h item w.reason) (sym same) is-wrong;
  position_is = ap (λ (w : WrongReply). w.position) same;
}

first_in : (format : Format) (settings : Settings) (h : List Item) (wrong : WrongReply) (others : List WrongReply) → AreWrongIn format settings h (wrong ∷ others) → StandsFirst format settings h wrong
first_in format settings [] wrong others a = absurd (let none : wrong ∷ others ≡ [] = a in cc)
first_in format settings (item ∷ h) wrong others (inl a) = first_behind format settings item h wrong (first_in format settings h wrong others a.0)
first_in format settings (item ∷ h) wrong others (inr ([], why, before, is-wrong, is)) =
    let same : wrong ≡ wrong_after h why = cc in
    first_here format settings item h why wrong (none_in format settings h before) is-wrong same
first_in format settings (item ∷ h) wrong others (inr (one ∷ earlier, why, before, is-wrong, is)) =
    let same : one ≡ wrong = cc in
    first_behind format settings item h wrong (subst (λ (w : WrongReply). StandsFirst format settings h w) same (first_in format settings h one earlier before))

-- ---- what octets are read as

-- the octets are read as records behind which no further one is read, and these are the wrong replies
record IsReadTo (octets : List ℕ) (settings : Settings) (wrongs : List WrongReply) : Type 0 where
  format : Format
  records : List Record
  history : List Item
  rest : List ℕ
  splits : Splits format octets records history rest
  are_wrong : AreWrongIn format settings history wrongs
  is_last : (other : Format) (others : List Record) (g : List Item) (behind : List ℕ) → Splits other octets others g behind → (items : List Item) × (history ≡ items ++ g)

whole_read : (octets : List ℕ) (settings : Settings) (wrongs : List WrongReply) → AreWrongInWhole octets settings wrongs → IsReadTo octets settings wrongs
whole_read octets settings wrongs w = record {
  format = w.format;
  records = w.records;
  history = w.history;
  rest = [];
  splits = w.is_transcript;
  are_wrong = w.are_wrong;
  is_last = λ other others g behind splits.
      unfinished_last w.format other octets w.records others w.history g [] behind w.is_transcript (nothing_unfinished w.format w.history) splits;
}

before_read : (octets : List ℕ) (settings : Settings) (wrongs : List WrongReply) (position : ℕ) (f : RecordFault) → AreWrongBefore octets settings wrongs position f → IsReadTo octets settings wrongs
before_read octets settings wrongs position f b =
    let read = break_read b.format octets b.history f b.breaks in
    record {
      format = b.format;
      records = read.0;
      history = b.history;
      rest = read.1;
      splits = read.2;
      are_wrong = b.are_wrong;
      is_last = λ other others g behind splits. last_read b.format other octets b.history f others g behind b.breaks splits;
    }

-- they break in the opening, and have no wrong replies, or are read
read_or_not : (octets : List ℕ) (settings : Settings) (wrongs : List WrongReply) (ending : Ending) → AreWrongReplies octets settings wrongs ending
    → ((f : RecordFault) × BreaksOpening octets f × (wrongs ≡ [])) ⊎ IsReadTo octets settings wrongs
read_or_not octets settings wrongs Whole w = inr (whole_read octets settings wrongs w)
read_or_not octets settings wrongs (Broken position f) (inl o) = inl (f, o.1, o.2)
read_or_not octets settings wrongs (Broken position f) (inr b) = inr (before_read octets settings wrongs position f b)

-- octets that are read as more items are read as the first of them
fewer : (format : Format) (octets : List ℕ) (later : List Item) (h : List Item) (records : List Record) (rest : List ℕ) → Splits format octets records (later ++ h) rest
    → (others : List Record) × (behind : List ℕ) × Splits format octets others h behind
fewer format octets [] h records rest s = (records, rest, s)
fewer format octets (i ∷ later) h [] rest s = absurd s.are_read
fewer format octets (i ∷ later) h (r ∷ records) rest s =
    fewer format octets later h records (record_text format r ++ rest) (record {
      octets_are = s.octets_are ∙ ap (λ (t : List ℕ). opening format ++ t) (append_assoc (records_text format records) (record_text format r) rest);
      are_read = s.are_read.0;
    })

-- ---- they begin with the verdict

read_no : (octets : List ℕ) (settings : Settings) (wrong : WrongReply) (later : List WrongReply) → IsReadTo octets settings (wrong ∷ later) → IsWrongAt octets settings wrong.position wrong.reason
read_no octets settings wrong later r =
    let first = first_in r.format settings r.history wrong later r.are_wrong in
    let front = fewer r.format octets first.later (first.item ∷ first.earlier) r.records r.rest (subst (λ (h : List Item). Splits r.format octets r.records h r.rest) first.history_is r.splits) in
    record {
      format = r.format;
      records = front.0;
      history = first.earlier;
      item = first.item;
      rest = front.1;
      splits = front.2;
      all_right = first.all_right;
      is_wrong = first.is_wrong;
      position_is = first.position_is;
    }

pub first_is_no : (octets : List ℕ) (settings : Settings) (wrong : WrongReply) (later : List WrongReply) (ending : Ending) → AreWrongReplies octets settings (wrong ∷ later) ending
    → IsVerdict octets settings (No wrong.position wrong.reason)
first_is_no octets settings wrong later ending all = elim (read_or_not octets settings (wrong ∷ later) ending all) [
  | inl unread ↦ absurd (let none : wrong ∷ later ≡ [] = unread.2 in cc)
  | inr read ↦ read_no octets settings wrong later read
]

pub none_is_yes : (octets : List ℕ) (settings : Settings) → AreWrongReplies octets settings [] Whole → (counts : Counts) × IsVerdict octets settings (Yes counts)
none_is_yes octets settings w = (
  counts_of w.format settings w.history,
  record {
    format = w.format;
    records = w.records;
    history = w.history;
    is_transcript = w.is_transcript;
    all_right = none_in w.format settings w.history w.are_wrong;
    counts_are = refl;
  },
)

pub none_is_malformed : (octets : List ℕ) (settings : Settings) (position : ℕ) (f : RecordFault) → AreWrongReplies octets settings [] (Broken position f) → IsVerdict octets settings (Malformed position f)
none_is_malformed octets settings position f (inl o) = inl (o.0, o.1)
none_is_malformed octets settings position f (inr b) = inr (record {
  format = b.format;
  history = b.history;
  all_right = none_in b.format settings b.history b.are_wrong;
  breaks = b.breaks;
  position_is = b.position_is;
})

-- ---- one list

-- of one history, in one format
same_in : (settings : Settings) (format other : Format) (h g : List Item) (wrongs others : List WrongReply) → other ≡ format → g ≡ h → AreWrongIn format settings h wrongs
    → AreWrongIn other settings g others → wrongs ≡ others
same_in settings format other h g wrongs others same-format same a b =
    one_in format settings h wrongs others a (subst (λ (k : Format). AreWrongIn k settings h others) same-format (subst (λ (i : List Item). AreWrongIn other settings i others) same b))

whole_whole : (octets : List ℕ) (settings : Settings) (wrongs others : List WrongReply) → AreWrongInWhole octets settings wrongs → AreWrongInWhole octets settings others → wrongs ≡ others
whole_whole octets settings wrongs others w v =
    let splits = same_format octets w.format v.format w.records v.records w.history v.history [] [] w.is_transcript v.is_transcript in
    let same = one_reading w.format octets w.records v.records w.history v.history w.is_transcript splits in
    let same-format = one_opening octets v.format w.format v.records w.records v.history w.history [] [] v.is_transcript w.is_transcript in
    same_in settings w.format v.format w.history v.history wrongs others same-format (sym same.1) w.are_wrong v.are_wrong

whole_broken : (octets : List ℕ) (settings : Settings) (wrongs others : List WrongReply) (position : ℕ) (f : RecordFault) → AreWrongInWhole octets settings wrongs
    → ¬ (AreWrongReplies octets settings others (Broken position f))
whole_broken octets settings wrongs others position f w (inl o) = opening_unread octets f w.format w.records w.history [] o.1 w.is_transcript
whole_broken octets settings wrongs others position f w (inr b) = behind_is_no_transcript b.format w.format octets b.history f w.records w.history b.breaks w.is_transcript

opening_before : (octets : List ℕ) (settings : Settings) (others : List WrongReply) (position : ℕ) (f e : RecordFault) → BreaksOpening octets f → ¬ (AreWrongBefore octets settings others position e)
opening_before octets settings others position f e breaks b =
    let read = break_read b.format octets b.history e b.breaks in opening_unread octets f b.format read.0 b.history read.1 breaks read.2

before_before : (octets : List ℕ) (settings : Settings) (wrongs others : List WrongReply) (position at : ℕ) (f e : RecordFault) → AreWrongBefore octets settings wrongs position f
    → AreWrongBefore octets settings others at e → (wrongs ≡ others) × (Broken position f ≡ Broken at e)
before_before octets settings wrongs others position at f e b c =
    let same = one_break_behind b.format c.format octets b.history c.history f e b.breaks c.breaks in
    let read = break_read b.format octets b.history f b.breaks in
    let again = break_read c.format octets c.history e c.breaks in
    let same-format = one_opening octets c.format b.format again.0 read.0 c.history b.history again.1 read.1 again.2 read.2 in (
      same_in settings b.format c.format b.history c.history wrongs others same-format (sym same.0) b.are_wrong c.are_wrong,
      ap (λ (p : ℕ). Broken p f) (b.position_is ∙ ap next_position same.0 ∙ sym c.position_is) ∙ ap (Broken at) same.1,
    )

pub one_list : (octets : List ℕ) (settings : Settings) (wrongs others : List WrongReply) (ending other : Ending) → AreWrongReplies octets settings wrongs ending
    → AreWrongReplies octets settings others other → (wrongs ≡ others) × (ending ≡ other)
one_list octets settings wrongs others Whole Whole w v = (whole_whole octets settings wrongs others w v, refl)
one_list octets settings wrongs others Whole (Broken p f) w b = absurd (whole_broken octets settings wrongs others p f w b)
one_list octets settings wrongs others (Broken p f) Whole b w = absurd (whole_broken octets settings others wrongs p f w b)
one_list octets settings wrongs others (Broken p f) (Broken q e) (inl o) (inl x) =
    (o.2 ∙ sym x.2, ap (λ (r : ℕ). Broken r f) (o.0 ∙ sym x.0) ∙ ap (Broken q) (one_opening_fault octets f e o.1 x.1))
one_list octets settings wrongs others (Broken p f) (Broken q e) (inl o) (inr c) = absurd (opening_before octets settings others q f e o.1 c)
one_list octets settings wrongs others (Broken p f) (Broken q e) (inr b) (inl x) = absurd (opening_before octets settings wrongs p e f x.1 b)
one_list octets settings wrongs others (Broken p f) (Broken q e) (inr b) (inr c) = before_before octets settings wrongs others p q f e b c

-- ---- those of a front come first

front_read : (octets more : List ℕ) (settings : Settings) (wrongs others : List WrongReply) → IsReadTo octets settings wrongs → IsReadTo (octets ++ more) settings others
    → (later : List WrongReply) × (others ≡ wrongs ++ later)
front_read octets more settings wrongs others r s =
    let splits = splits_more r.format octets more r.records r.history r.rest r.splits in
    let on = s.is_last r.format r.records r.history (r.rest ++ more) splits in
    let same-format = one_opening (octets ++ more) r.format s.format r.records s.records r.history s.history (r.rest ++ more) s.rest splits s.splits in
    later_in s.format settings on.0 r.history wrongs others (subst (λ (k : Format). AreWrongIn k settings r.history wrongs) same-format r.are_wrong)
    (subst (λ (h : List Item). AreWrongIn s.format settings h others) on.1 s.are_wrong)

pub front_comes_first : (octets more : List ℕ) (settings : Settings) (wrongs others : List WrongReply) (ending other : Ending) → AreWrongReplies octets settings wrongs ending
    → AreWrongReplies (octets ++ more) settings others other → (later : List WrongReply) × (others ≡ wrongs ++ later)
front_comes_first octets more settings wrongs others ending other all more-all =
    elim (read_or_not octets settings wrongs ending all) [
      | inl unread ↦ (others, ap (λ (ws : List WrongReply). ws ++ others) (sym unread.2))
      | inr read ↦
          elim (read_or_not (octets ++ more) settings others other more-all) [
            | inl unread ↦
                absurd (opening_unread (octets ++ more) unread.0 read.format read.records read.history (read.rest ++ more) unread.1
                (splits_more read.format octets more read.records read.history read.rest read.splits))
            | inr more-read ↦ front_read octets more settings wrongs others read more-read
          ]
    ]
