-- The verdicts on all parts give that on the whole.
use Rattle.std.proofs.Common.{◌≡◌, ℕ, zero, suc, ◌+◌, ◌<◌, ◌≤◌, Bool, true, false, cond, ◌&&◌, eqb, List, [], ◌∷◌, ◌++◌, length, refl, sym, ap, subst, ◌∙◌, arith, inl, inr, append_assoc, length-append}
use Rattle.std.proofs.lemmas.Bool.{cases_eq, cases_lt, eq-eqb, ne_eqb}
use Rattle.std.proofs.lemmas.List.{append-nil}
use Rattle.hc_head.specs.declared.head.Target.{Target}
use Rattle.hc_transcript.specs.declared.format.Format.{Format}
use Rattle.hc_transcript.specs.declared.record.Record.{Record}
use Rattle.hc_transcript.specs.Records.{opening, record_text, records_text}
use Rattle.hc_transcript.specs.Items.{Item}
use Rattle.hc_transcript.specs.History.{next_position}
use Rattle.hc_transcript.specs.Transcript.{AreReadAs, IsTranscript, Splits}
use Rattle.hc_transcript.proofs.OnceLemmas.{front, one, one_opening, same_format}
use Rattle.hc_history.specs.declared.reasons.Reason.{Reason}
use Rattle.hc_history.specs.declared.settings.Settings.{Settings}
use Rattle.hc_history.specs.declared.verdicts.Counts.{Counts}
use Rattle.hc_history.specs.declared.verdicts.Verdict.{Verdict}
use Rattle.hc_history.specs.declared.verdicts.Verdict.TheVariants.{Yes, No}
use Rattle.hc_history.specs.Counting.{counts_of, no_counts}
use Rattle.hc_history.specs.Right.{AllRight, IsWrong}
use Rattle.hc_history.specs.Verdicts.{IsVerdict}
use Rattle.hc_history.proofs.VerdictLemmas.{one_verdict, right_wrong}
use Rattle.hc_parts.specs.Parts.{KeepsCauses, goes_into, items_in, part_octets, position_in, records_in}
use Rattle.hc_parts.specs.Orderly.{AreInTurn, IsInTurn}
use Rattle.hc_parts.specs.Joining.{AreRightParts, IsClearBefore, IsPartWrong, added}
use Rattle.hc_parts.proofs.OpenLemmas.{KeepsTargets, targets_kept}
use Rattle.hc_parts.proofs.CountLemmas.{all_counted, counted_in_parts, goes_once, none_beyond}
use Rattle.hc_parts.proofs.PartLemmas.{all_here, all_there, part_of, wrong_there}
use Rattle.hc_parts.proofs.TranscriptLemmas.{in_turn, part_is_transcript}

-- ---- readings of a transcript

-- a transcript that is read up to an item goes on from there
record Reaches (records : List Record) (h : List Item) (others : List Record) (g : List Item) : Type 0 where
  pub more : List Record
  pub items : List Item
  pub records_are : records ≡ more ++ others
  pub items_are : h ≡ items ++ g

something : (a b c : List ℕ) (x : ℕ) → [] ≡ ((a ++ (x ∷ b)) ++ c) → ⊥
something [] b c x is = cc
something (y ∷ a) b c x is = cc

text_of_some : (format : Format) (r : Record) (more : List Record) (rest : List ℕ) → [] ≡ (records_text format (r ∷ more) ++ rest) → ⊥
text_of_some format r more rest is = something (records_text format more) _ rest _ is

reached : (format : Format) (octets : List ℕ) (records others : List Record) (h g : List Item) (rest : List ℕ) → IsTranscript format octets records h → Splits format octets others g rest
    → Reaches records h others g
reached format octets records others h g rest whole splits = elim (front format octets records others h g [] rest whole splits) [
  | inl on ↦ by_more on.more on.records_are on.items on.items_are on.rest_is
  | inr on ↦ record { more = on.more; items = on.items; records_are = on.records_are; items_are = on.items_are }
]
  where
    by_more : (more : List Record) → others ≡ more ++ records → (items : List Item) → g ≡ items ++ h → [] ≡ (records_text format more ++ rest) → Reaches records h others g
    by_more [] records_are items items_are rest_is =
        let same = one format octets records others h g whole (subst (λ (t : List ℕ). Splits format octets others g t) (sym rest_is) splits) in
        record { more = []; items = []; records_are = same.0; items_are = same.1 }
    by_more (r ∷ more) records_are items items_are rest_is = absurd (text_of_some format r more rest rest_is)

-- what holds of a history that reaches a shorter one holds of that
turn_behind : (items g : List Item) → AreInTurn (items ++ g) → AreInTurn g
turn_behind [] g turn = turn
turn_behind (item ∷ items) g turn = turn_behind items g turn.0

joined_behind : (part : Target → ℕ) (items g : List Item) → KeepsCauses part (items ++ g) → KeepsCauses part g
joined_behind part [] g joined = joined
joined_behind part (item ∷ items) g joined = joined_behind part items g joined.0

-- ---- yes

whole_right : (format : Format) (octets : List ℕ) (settings : Settings) (counts : Counts) (records : List Record) (h : List Item) → IsTranscript format octets records h
    → IsVerdict octets settings (Yes counts) → AllRight format settings h
whole_right format octets settings counts records h whole verdict =
    let f : format ≡ verdict.format = one_opening octets format verdict.format records verdict.records h verdict.history [] [] whole verdict.is_transcript in
    let transcript = same_format octets format verdict.format records verdict.records h verdict.history [] [] whole verdict.is_transcript in
    let same = one format octets records verdict.records h verdict.history whole transcript in
    subst (λ (g : List Item). AllRight format settings g) (sym same.1) (subst (λ (x : Format). AllRight x settings verdict.history) (sym f) verdict.all_right)

is_yes : (format : Format) (octets : List ℕ) (settings : Settings) (records : List Record) (h : List Item) → IsTranscript format octets records h → AllRight format settings h
    → IsVerdict octets settings (Yes (counts_of format settings h))
is_yes format octets settings records h whole right = record {
  format = format;
  records = records;
  history = h;
  is_transcript = whole;
  all_right = right;
  counts_are = refl;
}

-- ---- a front of a history, in a part

items_behind : (part : Target → ℕ) (k : ℕ) (items g : List Item) → (before : List Item) × (items_in part k (items ++ g) ≡ before ++ items_in part k g)
items_behind part k [] g = ([], refl)
items_behind part k (item ∷ items) g = by_goes (goes_into part k (items ++ g) item) (items_behind part k items g)
  where
    by_goes : (b : Bool) → (before : List Item) × (items_in part k (items ++ g) ≡ before ++ items_in part k g)
        → (before : List Item) × (cond b (item ∷ items_in part k (items ++ g)) (items_in part k (items ++ g)) ≡ before ++ items_in part k g)
    by_goes true was = (item ∷ was.0, ap (λ (xs : List Item). item ∷ xs) was.1)
    by_goes false was = was

records_behind : (part : Target → ℕ) (k : ℕ) (more : List Record) (items : List Item) (others : List Record) (g : List Item) → length more ≡ length items
    → (before : List Record) × (records_in part k (more ++ others) (items ++ g) ≡ before ++ records_in part k others g)
records_behind part k [] [] others g same = ([], refl)
records_behind part k [] (item ∷ items) others g same = absurd (omega (arith, same))
records_behind part k (r ∷ more) [] others g same = absurd (omega (arith, same))
records_behind part k (r ∷ more) (item ∷ items) others g same = by_goes (goes_into part k (items ++ g) item) (records_behind part k more items others g (omega (arith, same)))
  where
    by_goes : (b : Bool) → (before : List Record) × (records_in part k (more ++ others) (items ++ g) ≡ before ++ records_in part k others g)
        → (before : List Record) × (cond b (r ∷ records_in part k (more ++ others) (items ++ g)) (records_in part k (more ++ others) (items ++ g)) ≡ before ++ records_in part k others g)
    by_goes true was = (r ∷ was.0, ap (λ (xs : List Record). r ∷ xs) was.1)
    by_goes false was = was

text_behind : (format : Format) (more others : List Record) → records_text format (more ++ others) ≡ records_text format others ++ records_text format more
text_behind format [] others = sym (append-nil (records_text format others))
text_behind format (r ∷ more) others =
    ap (λ (text : List ℕ). text ++ record_text format r) (text_behind format more others) ∙ append_assoc (records_text format others) (records_text format more) (record_text format r)

as_long : (format : Format) (records : List Record) (h : List Item) → AreReadAs format records h → length records ≡ length h
as_long format [] [] read = refl
as_long format [] (item ∷ h) read = absurd read
as_long format (r ∷ records) [] read = absurd read
as_long format (r ∷ records) (item ∷ h) read = let same = as_long format records h read.0 in omega (arith, same)

-- records by a front of the items
record Parted (format : Format) (records : List Record) (g : List Item) : Type 0 where
  pub more : List Record
  pub others : List Record
  pub records_are : records ≡ more ++ others
  pub read : AreReadAs format others g

parted : (format : Format) (items g : List Item) (records : List Record) → AreReadAs format records (items ++ g) → Parted format records g
parted format [] g records read = record { more = []; others = records; records_are = refl; read = read }
parted format (item ∷ items) g [] read = absurd read
parted format (item ∷ items) g (r ∷ records) read =
    let was = parted format items g records read.0 in
    record { more = r ∷ was.more; others = was.others; records_are = ap (λ (xs : List Record). r ∷ xs) was.records_are; read = was.read }

right_behind : (format : Format) (settings : Settings) (items g : List Item) → AllRight format settings (items ++ g) → AllRight format settings g
right_behind format settings [] g right = right
right_behind format settings (item ∷ items) g right = right_behind format settings items g right.0

-- of two that reach the same the longer one reaches the shorter
abbrev tail_of : {A : Type 0} → List A → List A
tail_of [] = []
tail_of (x ∷ xs) = xs

shorter : (items others a b : List Item) → items ++ a ≡ others ++ b → length a ≤ length b → (between : List Item) × (b ≡ between ++ a)
shorter items [] a b same le = (items, sym same)
shorter [] (y ∷ others) a b same le =
    let long = ap length same in let added = length-append others b in absurd (omega (arith, long, added, le))
shorter (x ∷ items) (y ∷ others) a b same le = shorter items others a b (ap tail_of same) le

-- ---- where an item of a part stands in the whole

pub skipped : (part : Target → ℕ) (k place : ℕ) (items g : List Item) → place ≤ length (items_in part k g) → position_in part k place (items ++ g) ≡ position_in part k place g
skipped part k place [] g le = refl
skipped part k place (item ∷ items) g le =
    let behind = items_behind part k items g in
    let long : length (items_in part k (items ++ g)) ≡ length behind.0 + length (items_in part k g) = ap length behind.1 ∙ length-append behind.0 (items_in part k g) in
    let apart : eqb (next_position (items_in part k (items ++ g))) place ≡ false = ne_eqb _ _ (λ e. omega (arith, e, long, le)) in
    rw (apart, and_never (goes_into part k (items ++ g) item)) (skipped part k place items g le)
  where
    and_never : (a : Bool) → (a && false) ≡ false
    and_never true = refl
    and_never false = refl

pub at_own_place : (part : Target → ℕ) (k : ℕ) (item : Item) (g : List Item) → goes_into part k g item ≡ true → position_in part k (next_position (items_in part k g)) (item ∷ g) ≡ next_position g
at_own_place part k item g goes = rw (goes, eq-eqb (next_position (items_in part k g)) (next_position (items_in part k g)) refl) refl

pub its_position : (part : Target → ℕ) (k : ℕ) (items : List Item) (item : Item) (g : List Item) → goes_into part k g item ≡ true
    → position_in part k (next_position (items_in part k g)) (items ++ (item ∷ g)) ≡ next_position g
its_position part k items item g goes =
    let long : length (items_in part k (item ∷ g)) ≡ next_position (items_in part k g) = rw goes (omega arith) in
    skipped part k (next_position (items_in part k g)) items (item ∷ g) (omega (arith, long)) ∙ at_own_place part k item g goes

-- an item of a part is one of the whole
record IsFrom (part : Target → ℕ) (k : ℕ) (item : Item) (g h : List Item) : Type 0 where
  pub items : List Item
  pub before : List Item
  pub h_is : h ≡ items ++ (item ∷ before)
  pub goes : goes_into part k before item ≡ true
  pub part_is : items_in part k before ≡ g

abbrev head_or : Item → List Item → Item
head_or other [] = other
head_or other (x ∷ xs) = x

from_whole : (part : Target → ℕ) (k : ℕ) (h front : List Item) (item : Item) (g : List Item) → items_in part k h ≡ front ++ (item ∷ g) → IsFrom part k item g h
from_whole part k [] [] item g is = cc
from_whole part k [] (x ∷ front) item g is = cc
from_whole part k (newest ∷ h) front item g is = by_goes (goes_into part k h newest) refl is (λ before same. from_whole part k h before item g same)
  where
    longer : IsFrom part k item g h → IsFrom part k item g (newest ∷ h)
    longer was = record { items = newest ∷ was.items; before = was.before; h_is = ap (λ (xs : List Item). newest ∷ xs) was.h_is; goes = was.goes; part_is = was.part_is }

    by_front : (xs : List Item) → goes_into part k h newest ≡ true → newest ∷ items_in part k h ≡ xs ++ (item ∷ g) → ((before : List Item) → items_in part k h ≡ before ++ (item ∷ g) → IsFrom part k item g h)
        → IsFrom part k item g (newest ∷ h)
    by_front [] goes same was =
        let it : newest ≡ item = ap (head_or newest) same in
        subst (λ (i : Item). IsFrom part k i g (newest ∷ h)) it (record { items = []; before = h; h_is = refl; goes = goes; part_is = ap tail_of same })
    by_front (x ∷ xs) goes same was = longer (was xs (ap tail_of same))

    by_goes : (b : Bool) → goes_into part k h newest ≡ b → cond b (newest ∷ items_in part k h) (items_in part k h) ≡ front ++ (item ∷ g)
        → ((before : List Item) → items_in part k h ≡ before ++ (item ∷ g) → IsFrom part k item g h) → IsFrom part k item g (newest ∷ h)
    by_goes true goes same was = by_front front goes same was
    by_goes false apart same was = longer (was front same)

module _ (part : Target → ℕ) (format : Format) (octets : List ℕ) (settings : Settings) (records : List Record) (h : List Item) (whole : IsTranscript format octets records h)
    (joined : KeepsCauses part h) where
  keeps : KeepsTargets part
  keeps = targets_kept part

  turn : AreInTurn h
  turn = in_turn format records h whole.are_read

  transcript_of : (k : ℕ) → IsTranscript format (part_octets part format k records h) (records_in part k records h) (items_in part k h)
  transcript_of k = part_is_transcript part k format octets records h whole joined

  part_yes : AllRight format settings h → (k : ℕ) → IsVerdict (part_octets part format k records h) settings (Yes (counts_of format settings (items_in part k h)))
  part_yes right k =
      is_yes format (part_octets part format k records h) settings (records_in part k records h) (items_in part k h) (transcript_of k) (all_there part k keeps format settings h turn joined right)

  parts_yes : AllRight format settings h → (n : ℕ) → AreRightParts part format settings records h n (counted_in_parts part format settings h n)
  parts_yes right zero = refl
  parts_yes right (suc n) =
      (counted_in_parts part format settings h n, counts_of format settings (items_in part n h), parts_yes right n, part_yes right n, refl)

  part_right : (k : ℕ) (counts : Counts) → IsVerdict (part_octets part format k records h) settings (Yes counts) → AllRight format settings (items_in part k h)
  part_right k counts verdict =
      whole_right format (part_octets part format k records h) settings counts (records_in part k records h) (items_in part k h) (transcript_of k) verdict

  counts_in : Verdict → Counts
  counts_in (Yes counts) = counts
  counts_in other = no_counts

  part_counts : (k : ℕ) (counts : Counts) → IsVerdict (part_octets part format k records h) settings (Yes counts) → counts ≡ counts_of format settings (items_in part k h)
  unfolding counts_in
  part_counts k counts verdict =
      ap counts_in (one_verdict (part_octets part format k records h) settings (Yes counts) (Yes (counts_of format settings (items_in part k h))) verdict
      (is_yes format (part_octets part format k records h) settings (records_in part k records h) (items_in part k h) (transcript_of k) (part_right k counts verdict)))

  each_right : (n : ℕ) (counts : Counts) → AreRightParts part format settings records h n counts → (k : ℕ) → k < n → AllRight format settings (items_in part k h)
  each_right zero counts parts k lt = absurd (omega (arith, lt))
  each_right (suc n) counts parts k lt = elim (cases_eq k n) [
    | inl same ↦ subst (λ (m : ℕ). AllRight format settings (items_in part m h)) (sym same) (part_right n parts.1 parts.3)
    | inr apart ↦ each_right n parts.0 parts.2 k (omega (arith, apart, lt))
  ]

  all_counts : (n : ℕ) (counts : Counts) → AreRightParts part format settings records h n counts → counts ≡ counted_in_parts part format settings h n
  all_counts zero counts parts = parts
  all_counts (suc n) counts parts =
      parts.4 ∙ (λ i. added (all_counts n parts.0 parts.2 i) (part_counts n parts.1 parts.3 i))

  module _ (n : ℕ) (few : (target : Target) → part target < n) where
    pub yes_of_all : (counts : Counts) → IsVerdict octets settings (Yes counts) → AreRightParts part format settings records h n counts
    unfolding counts_in
    yes_of_all counts verdict =
        let right = whole_right format octets settings counts records h whole verdict in
        let same = verdict_counts counts verdict right in
        subst (AreRightParts part format settings records h n) (sym (same ∙ all_counted part n format settings h keeps few turn joined)) (parts_yes right n)
      where
        verdict_counts : (cs : Counts) → IsVerdict octets settings (Yes cs) → AllRight format settings h → cs ≡ counts_of format settings h
        verdict_counts cs is right = ap counts_in (one_verdict octets settings (Yes cs) (Yes (counts_of format settings h)) is (is_yes format octets settings records h whole right))

    pub all_of_yes : (counts : Counts) → AreRightParts part format settings records h n counts → IsVerdict octets settings (Yes counts)
    all_of_yes counts parts =
        let right = all_here part format settings h keeps turn joined (λ k. elim (cases_lt k n) [
          | inl lt ↦ each_right n counts parts k lt
          | inr le ↦ subst (AllRight format settings) (sym (none_beyond part n k h few le)) tt
        ]) in
        let same = all_counts n counts parts ∙ sym (all_counted part n format settings h keeps few turn joined) in
        subst (λ (c : Counts). IsVerdict octets settings (Yes c)) (sym same) (is_yes format octets settings records h whole right)

  -- ---- no

  reached_there : (k : ℕ) (others : List Record) (g : List Item) (rest : List ℕ) → Splits format (part_octets part format k records h) others g rest → Reaches (records_in part k records h) (items_in part k h) others g
  reached_there k others g rest splits = reached format (part_octets part format k records h) (records_in part k records h) others (items_in part k h) g rest (transcript_of k) splits

  -- a reply that is wrong in a part is wrong in the whole, for the same reason
  record IsWrongHere (k position : ℕ) (why : Reason) : Type 0 where
    pub items : List Item
    pub item : Item
    pub before : List Item
    pub h_is : h ≡ items ++ (item ∷ before)
    pub is_wrong : IsWrong format settings before item why
    pub position_is : position ≡ next_position before
    pub part_right : AllRight format settings (items_in part k before)

  wrong_here : (k position : ℕ) (why : Reason) → IsPartWrong part format settings records h k position why → IsWrongHere k position why
  wrong_here k position why wrong =
      let v = wrong.verdict in
      let f : format ≡ v.format = one_opening (part_octets part format k records h) format v.format (records_in part k records h) v.records (items_in part k h) (v.item ∷ v.history) [] v.rest (transcript_of k) v.splits in
      let splits = same_format (part_octets part format k records h) format v.format (records_in part k records h) v.records (items_in part k h) (v.item ∷ v.history) [] v.rest (transcript_of k) v.splits in
      let reach = reached_there k v.records (v.item ∷ v.history) v.rest splits in
      let from = from_whole part k h reach.items v.item v.history reach.items_are in
      let here_turn = (turn_behind from.items (v.item ∷ from.before) (subst AreInTurn from.h_is turn)).0 in
      let here_joined = (joined_behind part from.items (v.item ∷ from.before) (subst (KeepsCauses part) from.h_is joined)).0 in
      let there_wrong : IsWrong format settings (items_in part k from.before) v.item why =
      subst (λ (x : Format). IsWrong x settings (items_in part k from.before) v.item why) (sym f)
      (subst (λ (g : List Item). IsWrong v.format settings g v.item why) (sym from.part_is) v.is_wrong) in
      let there_right : AllRight format settings (items_in part k from.before) =
      subst (λ (x : Format). AllRight x settings (items_in part k from.before)) (sym f)
      (subst (λ (g : List Item). AllRight v.format settings g) (sym from.part_is) v.all_right) in
      record {
        items = from.items;
        item = v.item;
        before = from.before;
        h_is = from.h_is;
        is_wrong = (wrong_there part k keeps format settings from.before v.item why here_turn here_joined from.goes).0 there_wrong;
        position_is = wrong.position_is ∙ ap (λ (n : ℕ). position_in part k n h) v.position_is
            ∙ ap (λ (g : List Item). position_in part k (next_position g) h) (sym from.part_is)
            ∙ ap (position_in part k (next_position (items_in part k from.before))) from.h_is
            ∙ its_position part k from.items v.item from.before from.goes;
        part_right = there_right;
      }

  -- the first wrong reply of the whole is the first of its part
  pub first_there : (position : ℕ) (why : Reason) → IsVerdict octets settings (No position why) → (k : ℕ) × IsPartWrong part format settings records h k position why
  first_there position why v =
      let f : format ≡ v.format = one_opening octets format v.format records v.records h (v.item ∷ v.history) [] v.rest whole v.splits in
      let splits = same_format octets format v.format records v.records h (v.item ∷ v.history) [] v.rest whole v.splits in
      let reach = reached format octets records v.records h (v.item ∷ v.history) v.rest whole splits in
      let all_turn = turn_behind reach.items (v.item ∷ v.history) (subst AreInTurn reach.items_are turn) in
      let all_joined = joined_behind part reach.items (v.item ∷ v.history) (subst (KeepsCauses part) reach.items_are joined) in
      let k = part_of part v.history v.item all_turn.1 in
      let right : AllRight format settings v.history = subst (λ (x : Format). AllRight x settings v.history) (sym f) v.all_right in
      let wrong : IsWrong format settings v.history v.item why = subst (λ (x : Format). IsWrong x settings v.history v.item why) (sym f) v.is_wrong in
      let read = part_is_transcript part k.0 format (opening format ++ records_text format v.records) v.records (v.item ∷ v.history)
      (record { octets_are = ap (λ (text : List ℕ). opening format ++ text) (sym (append-nil (records_text format v.records))); are_read = splits.are_read }) all_joined in
      let whole_long = as_long format records h whole.are_read in
      let part_long = as_long format v.records (v.item ∷ v.history) splits.are_read in
      let more_long : length reach.more ≡ length reach.items =
      let a = ap length reach.records_are ∙ length-append reach.more v.records in let b = ap length reach.items_are ∙ length-append reach.items (v.item ∷ v.history) in
      omega (arith, whole_long, part_long, a, b) in
      let behind = records_behind part k.0 reach.more reach.items v.records (v.item ∷ v.history) more_long in
      let records_are : records_in part k.0 records h ≡ behind.0 ++ records_in part k.0 v.records (v.item ∷ v.history) =
      (λ i. records_in part k.0 (reach.records_are i) (reach.items_are i)) ∙ behind.1 in
      let goes_items : items_in part k.0 (v.item ∷ v.history) ≡ v.item ∷ items_in part k.0 v.history = rw k.1 refl in (
        k.0,
        record {
          place = next_position (items_in part k.0 v.history);
          verdict = record {
            format = format;
            records = records_in part k.0 v.records (v.item ∷ v.history);
            history = items_in part k.0 v.history;
            item = v.item;
            rest = records_text format behind.0;
            splits = record {
              octets_are = ap (λ (text : List ℕ). opening format ++ text) (ap (records_text format) records_are ∙ text_behind format behind.0 (records_in part k.0 v.records (v.item ∷ v.history)));
              are_read = subst (λ (g : List Item). AreReadAs format (records_in part k.0 v.records (v.item ∷ v.history)) g) goes_items read.are_read;
            };
            all_right = all_there part k.0 keeps format settings v.history all_turn.0 all_joined.0 right;
            is_wrong = (wrong_there part k.0 keeps format settings v.history v.item why all_turn.0 all_joined.0 k.1).1 wrong;
            position_is = refl;
          };
          position_is = v.position_is ∙ sym (its_position part k.0 reach.items v.item v.history k.1) ∙ ap (position_in part k.0 (next_position (items_in part k.0 v.history))) (sym reach.items_are);
        },
      )

  -- and no part has an earlier one
  pub none_earlier : (position : ℕ) (why : Reason) → IsVerdict octets settings (No position why) → (j other : ℕ) (reason : Reason) → IsPartWrong part format settings records h j other reason → position ≤ other
  none_earlier position why v j other reason wrong = elim (cases_lt other position) [
    | inl lt ↦ absurd (earlier lt)
    | inr le ↦ le
  ]
    where
      earlier : other < position → ⊥
      earlier lt =
          let f : format ≡ v.format = one_opening octets format v.format records v.records h (v.item ∷ v.history) [] v.rest whole v.splits in
          let splits = same_format octets format v.format records v.records h (v.item ∷ v.history) [] v.rest whole v.splits in
          let reach = reached format octets records v.records h (v.item ∷ v.history) v.rest whole splits in
          let here = wrong_here j other reason wrong in
          let place = here.position_is in
          let place_of_first = v.position_is in
          let right : AllRight format settings v.history = subst (λ (x : Format). AllRight x settings v.history) (sym f) v.all_right in
          let same : here.items ++ (here.item ∷ here.before) ≡ (reach.items ++ (v.item ∷ [])) ++ v.history =
          sym here.h_is ∙ reach.items_are ∙ sym (append_assoc reach.items (v.item ∷ []) v.history) in
          let between = shorter here.items (reach.items ++ (v.item ∷ [])) (here.item ∷ here.before) v.history same (omega (arith, lt, place, place_of_first)) in
          right_wrong format settings here.before here.item reason
          ((right_behind format settings between.0 (here.item ∷ here.before) (subst (AllRight format settings) between.1 right)).1) here.is_wrong

  -- ---- and back

  right_up_to : (j : ℕ) (items : List Item) (item : Item) (g : List Item) → h ≡ items ++ (item ∷ g) → IsClearBefore part format settings records h (next_position g) j → AllRight format settings (items_in part j g)
  right_up_to j items item g h_is (inl right) =
      let all = whole_right format (part_octets part format j records h) settings right.0 (records_in part j records h) (items_in part j h) (transcript_of j) right.1 in
      let behind = items_behind part j (items ++ (item ∷ [])) g in
      let same : items_in part j h ≡ behind.0 ++ items_in part j g = ap (items_in part j) (h_is ∙ sym (append_assoc items (item ∷ []) g)) ∙ behind.1 in
      right_behind format settings behind.0 (items_in part j g) (subst (AllRight format settings) same all)
  right_up_to j items item g h_is (inr wrong) =
      let here = wrong_here j wrong.0 wrong.1 wrong.2 in
      let place = here.position_is in
      let late = wrong.3 in
      let same : (items ++ (item ∷ [])) ++ g ≡ (here.items ++ (here.item ∷ [])) ++ here.before =
      append_assoc items (item ∷ []) g ∙ sym h_is ∙ here.h_is ∙ sym (append_assoc here.items (here.item ∷ []) here.before) in
      let between = shorter (items ++ (item ∷ [])) (here.items ++ (here.item ∷ [])) g here.before same (omega (arith, place, late)) in
      let behind = items_behind part j between.0 g in
      right_behind format settings behind.0 (items_in part j g)
      (subst (AllRight format settings) (ap (items_in part j) between.1 ∙ behind.1) here.part_right)

  pub least_is_first : (n : ℕ) → ((target : Target) → part target < n) → (k position : ℕ) (why : Reason) → IsPartWrong part format settings records h k position why → ((j : ℕ) → j < n → IsClearBefore part format settings records h position j)
      → IsVerdict octets settings (No position why)
  least_is_first n few k position why wrong clear =
      let here = wrong_here k position why wrong in
      let all_turn = turn_behind here.items (here.item ∷ here.before) (subst AreInTurn here.h_is turn) in
      let all_joined = joined_behind part here.items (here.item ∷ here.before) (subst (KeepsCauses part) here.h_is joined) in
      let cut = parted format here.items (here.item ∷ here.before) records (subst (AreReadAs format records) here.h_is whole.are_read) in
      record {
        format = format;
        records = cut.others;
        history = here.before;
        item = here.item;
        rest = records_text format cut.more;
        splits = record {
          octets_are = whole.octets_are ∙ ap (λ (text : List ℕ). opening format ++ text) (append-nil (records_text format records) ∙ ap (records_text format) cut.records_are ∙ text_behind format cut.more cut.others);
          are_read = cut.read;
        };
        all_right = all_here part format settings here.before keeps all_turn.0 all_joined.0
            (λ j. elim (cases_lt j n) [
              | inl lt ↦ right_up_to j here.items here.item here.before here.h_is (subst (λ (m : ℕ). IsClearBefore part format settings records h m j) here.position_is (clear j lt))
              | inr le ↦ subst (AllRight format settings) (sym (none_beyond part n j here.before few le)) tt
            ]);
        is_wrong = here.is_wrong;
        position_is = here.position_is;
      }

-- ---- one part of each item

pub one_part : (part : Target → ℕ) (h : List Item) (item : Item) → IsInTurn h item → (k : ℕ) × (goes_into part k h item ≡ true) × ((n : ℕ) → goes_into part n h item ≡ true → n ≡ k)
one_part part h item turn =
    let k = part_of part h item turn in (
      k.0,
      k.1,
      λ n goes. elim (cases_eq n k.0) [
        | inl same ↦ same
        | inr apart ↦ let never : false ≡ true = sym (goes_once part k.0 n h item k.1 apart) ∙ goes in cc
      ],
    )
