-- What is counted in the parts is counted in the whole.
use Rattle.std.proofs.Common.{◌≡◌, ℕ, zero, suc, ◌<◌, ◌≤◌, true, false, cond, List, [], ◌∷◌, Option, Some, None, refl, sym, ap, ◌∙◌, arith, inl, inr}
use Rattle.std.proofs.lemmas.Bool.{cases_Bool, cases_eq, eqb-true, ne_eqb}
use Rattle.hc_head.specs.declared.head.Target.{Target}
use Rattle.hc_status.specs.declared.marks.Mark.{Mark}
use Rattle.hc_status.specs.declared.marks.Mark.TheVariants.{Hit, Forwarded, Both, Unmarked}
use Rattle.hc_transcript.specs.declared.format.Format.{Format}
use Rattle.hc_transcript.specs.Items.{Item}
use Rattle.hc_history.specs.declared.settings.Settings.{Settings}
use Rattle.hc_history.specs.declared.verdicts.Counts.{Counts}
use Rattle.hc_history.specs.Counting.{counts_of, marked, no_counts, one_more}
use Rattle.hc_history.specs.Marks.{item_mark}
use Rattle.hc_parts.specs.Parts.{KeepsCauses, goes_into, is_of_part, items_in, target_about}
use Rattle.hc_parts.specs.Orderly.{AreInTurn}
use Rattle.hc_parts.specs.Joining.{added}
use Rattle.hc_parts.proofs.OpenLemmas.{KeepsTargets}
use Rattle.hc_parts.proofs.PartLemmas.{mark_of_item, part_of}

-- ---- of counts

counts_alike : (a b : Counts) → a.records ≡ b.records → a.replies ≡ b.replies → a.hits ≡ b.hits → a.forwarded ≡ b.forwarded → a.unmarked ≡ b.unmarked → a ≡ b
counts_alike a b records replies hits forwarded unmarked =
    λ i. record { records = records i; replies = replies i; hits = hits i; forwarded = forwarded i; unmarked = unmarked i }

abbrev one_item : Option Mark → Counts → Counts
one_item mark counts = marked mark (one_more counts)

more_behind : (mark : Option Mark) (one other : Counts) → added one (one_item mark other) ≡ one_item mark (added one other)
more_behind None one other = counts_alike _ _ (omega arith) refl refl refl refl
more_behind (Some (Hit ttl)) one other = counts_alike _ _ (omega arith) (omega arith) (omega arith) refl refl
more_behind (Some (Forwarded collapsed)) one other = counts_alike _ _ (omega arith) (omega arith) refl (omega arith) refl
more_behind (Some Both) one other = counts_alike _ _ (omega arith) (omega arith) refl refl refl
more_behind (Some Unmarked) one other = counts_alike _ _ (omega arith) (omega arith) refl refl (omega arith)

more_before : (mark : Option Mark) (one other : Counts) → added (one_item mark one) other ≡ one_item mark (added one other)
more_before None one other = counts_alike _ _ (omega arith) refl refl refl refl
more_before (Some (Hit ttl)) one other = counts_alike _ _ (omega arith) (omega arith) (omega arith) refl refl
more_before (Some (Forwarded collapsed)) one other = counts_alike _ _ (omega arith) (omega arith) refl (omega arith) refl
more_before (Some Both) one other = counts_alike _ _ (omega arith) (omega arith) refl refl refl
more_before (Some Unmarked) one other = counts_alike _ _ (omega arith) (omega arith) refl refl (omega arith)

-- what is counted in the first n parts
abbrev pub counted_in_parts : (Target → ℕ) → Format → Settings → List Item → ℕ → Counts
counted_in_parts part format settings h zero = no_counts
counted_in_parts part format settings h (suc n) = added (counted_in_parts part format settings h n) (counts_of format settings (items_in part n h))

-- ---- of one item more

-- it goes into one part alone
pub goes_once : (part : Target → ℕ) (k n : ℕ) (h : List Item) (item : Item) → goes_into part k h item ≡ true → ((n ≡ k) → ⊥) → goes_into part n h item ≡ false
goes_once part k n h item goes apart = by_target (target_about h item) goes
  where
    by_target : (o : Option Target) → is_of_part part k o ≡ true → is_of_part part n o ≡ false
    by_target None its = cc
    by_target (Some target) its =
        let same = eqb-true (part target) k its in ne_eqb (part target) n (λ e. apart (sym e ∙ same))

module _ (part : Target → ℕ) (keeps : KeepsTargets part) (format : Format) (settings : Settings) (h : List Item) (item : Item) (turn : AreInTurn h) (joined : KeepsCauses part h)
    (k : ℕ) (goes : goes_into part k h item ≡ true) where
  others_stay : (n : ℕ) → n ≤ k → counted_in_parts part format settings (item ∷ h) n ≡ counted_in_parts part format settings h n
  others_stay zero le = refl
  others_stay (suc n) le =
      let apart = goes_once part k n h item goes (λ e. omega (arith, e, le)) in
      (λ i. added (others_stay n (omega (arith, le)) i) (counts_of format settings (cond (apart i) (item ∷ items_in part n h) (items_in part n h))))

  its_part : counts_of format settings (items_in part k (item ∷ h)) ≡ one_item (item_mark format settings h item) (counts_of format settings (items_in part k h))
  its_part =
      rw goes (ap (λ (mark : Option Mark). one_item mark (counts_of format settings (items_in part k h))) (mark_of_item part k keeps format settings h item turn joined goes))

  counted_once : (n : ℕ) → k < n → counted_in_parts part format settings (item ∷ h) n ≡ one_item (item_mark format settings h item) (counted_in_parts part format settings h n)
  counted_once zero lt = absurd (omega (arith, lt))
  counted_once (suc n) lt = elim (cases_eq n k) [
    | inl same ↦
        (λ i. added (others_stay n (omega (arith, same)) i) (counts_of format settings (items_in part (same i) (item ∷ h))))
        ∙ ap (added (counted_in_parts part format settings h n)) its_part
        ∙ more_behind (item_mark format settings h item) (counted_in_parts part format settings h n) (counts_of format settings (items_in part k h))
        ∙ ap (λ (m : ℕ). one_item (item_mark format settings h item) (added (counted_in_parts part format settings h n) (counts_of format settings (items_in part m h)))) (sym same)
    | inr apart ↦
        let elsewhere = goes_once part k n h item goes apart in
        (λ i. added (counted_once n (omega (arith, apart, lt)) i) (counts_of format settings (cond (elsewhere i) (item ∷ items_in part n h) (items_in part n h))))
        ∙ more_before (item_mark format settings h item) (counted_in_parts part format settings h n) (counts_of format settings (items_in part n h))
  ]

-- no item goes into a part beyond the last
part_below : (part : Target → ℕ) (n : ℕ) (h : List Item) (item : Item) (k : ℕ) → ((target : Target) → part target < n) → goes_into part k h item ≡ true → k < n
part_below part n h item k few goes = by_target (target_about h item) goes
  where
    by_target : (o : Option Target) → is_of_part part k o ≡ true → k < n
    by_target None its = cc
    by_target (Some target) its = let same = eqb-true (part target) k its in let lt = few target in omega (arith, same, lt)

pub none_beyond : (part : Target → ℕ) (n k : ℕ) (h : List Item) → ((target : Target) → part target < n) → n ≤ k → items_in part k h ≡ []
none_beyond part n k [] few le = refl
none_beyond part n k (item ∷ h) few le = elim (cases_Bool (goes_into part k h item)) [
  | inl goes ↦ let lt = part_below part n h item k few goes in absurd (omega (arith, lt, le))
  | inr apart ↦ rw apart (none_beyond part n k h few le)
]

nothing_counted : (part : Target → ℕ) (format : Format) (settings : Settings) (n : ℕ) → counted_in_parts part format settings [] n ≡ no_counts
nothing_counted part format settings zero = refl
nothing_counted part format settings (suc n) = ap (λ (c : Counts). added c no_counts) (nothing_counted part format settings n)

pub all_counted : (part : Target → ℕ) (n : ℕ) (format : Format) (settings : Settings) (h : List Item) → KeepsTargets part → ((target : Target) → part target < n) → AreInTurn h → KeepsCauses part h
    → counts_of format settings h ≡ counted_in_parts part format settings h n
all_counted part n format settings [] keeps few turn joined = sym (nothing_counted part format settings n)
all_counted part n format settings (item ∷ h) keeps few turn joined =
    let k = part_of part h item turn.1 in
    ap (one_item (item_mark format settings h item)) (all_counted part n format settings h keeps few turn.0 joined.0)
    ∙ sym (counted_once part keeps format settings h item turn.0 joined.0 k.0 k.1 n (part_below part n h item k.0 few k.1))
