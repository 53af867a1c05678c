-- The windows of a target, and the answers behind what was there before them.
use Rattle.std.proofs.Common.{◌≡◌, ℕ, ◌+◌, ◌-◌, ◌≤◌, Bool, true, false, ◌&&◌, ◌||◌, cond, eqb, ltb, leb, List, [], ◌∷◌, ◌++◌, length, drop, min, Result, Ok, Err, OnOk, OnErr, refl, sym, ap, ◌∙◌, arith, inl, inr, eq-eqb, leb-true, leb-false, ltb-true, sub-eq-zero_of_le, drop_of_length-le}
use Rattle.std.specs.Prelude.{map}
use Rattle.std.specs.List.{list_any}
use Rattle.std.specs.Cmp.{tied_then}
use Rattle.std.specs.Ordering.{nat_cmp, ordering_then, is_eq, is_gt}
use Rattle.std.specs.declared.cmp.Ordering.{Ordering}
use Rattle.std.specs.declared.cmp.Ordering.TheVariants.{Less, Equal, Greater}
use Rattle.std.specs.BTreeMap.{is_at}
use Rattle.std.specs.BTreeSet.{BTreeSet, contains, Updates, IsUnchanged, IsLowerBound}
use Rattle.std.proofs.lemmas.Bool.{cases_Bool, ne_eqb, eqb-true}
use Rattle.std.proofs.Math.Seq.{drop-append-add}
use Rattle.std.proofs.lemmas.List.{drop-drop, drop_min, drop-append-le}
use Rattle.std.proofs.lemmas.List.Folds.{list_any-append}
use Rattle.std.proofs.lemmas.Map.Keys.{le_from_not_gt}
use Rattle.hc_index.specs.Openings.{by_opening}

-- ---- the order of windows

nat_tied_by : (x y : ℕ) (less : Bool) → ltb x y ≡ less → is_eq (cond less Less (cond (eqb x y) Equal Greater)) ≡ eqb x y
nat_tied_by x y true is = sym (ne_eqb x y (λ same. let below = ltb-true x y is in omega (arith, below, same)))
nat_tied_by x y false is = go (eqb x y)
  where
    go : (same : Bool) → is_eq (cond same Equal Greater) ≡ same
    go true = refl
    go false = refl

pub nat_tied : (x y : ℕ) → is_eq (nat_cmp x y) ≡ eqb x y
nat_tied x y = nat_tied_by x y (ltb x y) refl

and_false : (a : Bool) → (a && false) ≡ false
and_false true = refl
and_false false = refl

left_true : (a b : Bool) → (a && b) ≡ true → a ≡ true
left_true true b is = refl
left_true false b is = is

-- windows of other numbers are apart
pub apart : (b n c m : ℕ) → (m ≡ n → ⊥) → is_eq (by_opening (b, n) (c, m)) ≡ false
apart b n c m ne =
    sym (tied_then (nat_cmp b c) (nat_cmp n m))
    ∙ ap (λ (t : Bool). is_eq (nat_cmp b c) && t) (nat_tied n m ∙ ne_eqb n m (λ k. ne (sym k)))
    ∙ and_false (is_eq (nat_cmp b c))

tied_behind : (b n c m : ℕ) → is_eq (by_opening (b, n) (c, m)) ≡ true → b ≡ c
tied_behind b n c m is =
    eqb-true b c (sym (nat_tied b c) ∙ left_true (is_eq (nat_cmp b c)) (is_eq (nat_cmp n m)) (tied_then (nat_cmp b c) (nat_cmp n m) ∙ is))

tied_itself : (b n : ℕ) → is_eq (by_opening (b, n) (b, n)) ≡ true
tied_itself b n =
    sym (tied_then (nat_cmp b b) (nat_cmp n n))
    ∙ ap (λ (t : Bool). t && is_eq (nat_cmp n n)) (nat_tied b b ∙ eq-eqb b b refl)
    ∙ nat_tied n n ∙ eq-eqb n n refl

not_greater : (a r : Ordering) → is_gt (ordering_then a r) ≡ false → is_gt a ≡ false
not_greater Less r is = refl
not_greater Equal r is = refl
not_greater Greater r is = is

-- the first window begins no later than any other
pub first_is_oldest : (windows : BTreeSet (ℕ × ℕ)) (oldest : ℕ × ℕ) (b n : ℕ) → IsLowerBound by_opening windows oldest
    → contains by_opening windows (b, n) ≡ true → oldest.0 ≤ b
first_is_oldest windows oldest b n least is =
    le_from_not_gt oldest.0 b (not_greater (nat_cmp oldest.0 b) (nat_cmp oldest.1 n) (least (b, n) is))

-- ---- what is open

-- whether each window begins within so many answers
abbrev pub BeginWithin : ℕ → BTreeSet (ℕ × ℕ) → Type 0
BeginWithin end windows = (b n : ℕ) → contains by_opening windows (b, n) ≡ true → b ≤ end

opened_within_by : (end b c : ℕ) (same old new : Bool) → new ≡ cond same true old → (same ≡ true → c ≡ b) → c ≤ end → (old ≡ true → b ≤ end) → new ≡ true → b ≤ end
opened_within_by end b c true old new is at_it fits before now = let here = at_it refl in omega (arith, here, fits)
opened_within_by end b c false old new is at_it fits before now = before (sym is ∙ now)

opened_within : (end c m : ℕ) (old new : BTreeSet (ℕ × ℕ)) → Updates by_opening old new (c, m) true → c ≤ end → BeginWithin end old → BeginWithin end new
opened_within end c m old new updates fits before b n now =
    opened_within_by end b c (is_eq (by_opening (c, m) (b, n))) (contains by_opening old (b, n)) (contains by_opening new (b, n))
    (updates.0 (b, n)) (tied_behind c m b n) fits (before b n) now

same_within : (end : ℕ) (old new : BTreeSet (ℕ × ℕ)) → IsUnchanged old new → BeginWithin end old → BeginWithin end new
same_within end old new same before b n now =
    before b n (ap (list_any (is_at (by_opening (b, n)))) (sym same) ∙ now)

pub all_within : {A E : Type 0} (result : Result A E) (end c m : ℕ) (old new : BTreeSet (ℕ × ℕ)) → OnOk result (Updates by_opening old new (c, m) true)
    → OnErr result (IsUnchanged old new) → c ≤ end → BeginWithin end old → BeginWithin end new
all_within (Ok x) end c m old new ok err fits before = opened_within end c m old new ok fits before
all_within (Err x) end c m old new ok err fits before = same_within end old new err before

still_open : (same old new : Bool) → new ≡ cond same false old → new ≡ true → old ≡ true
still_open true old new is now = absurd (let e = sym is ∙ now in cc)
still_open false old new is now = sym is ∙ now

pub closed_within : (end c m : ℕ) (old new : BTreeSet (ℕ × ℕ)) → Updates by_opening old new (c, m) false → BeginWithin end old → BeginWithin end new
closed_within end c m old new updates before b n now =
    before b n (still_open (is_eq (by_opening (c, m) (b, n))) (contains by_opening old (b, n)) (contains by_opening new (b, n)) (updates.0 (b, n)) now)

pub opened : (c m : ℕ) (old new : BTreeSet (ℕ × ℕ)) → Updates by_opening old new (c, m) true → contains by_opening new (c, m) ≡ true
opened c m old new updates =
    updates.0 (c, m) ∙ ap (λ (t : Bool). cond t true (contains by_opening old (c, m))) (tied_itself c m)

-- ---- the answers

-- behind the last one there is none
pub none_behind : {X Y : Type 0} (see : X → Y) (dropped : ℕ) (xs : List X) → map see (drop ((dropped + length xs) - dropped) xs) ≡ []
none_behind see dropped xs = ap (map see) (ap (λ (k : ℕ). drop k xs) (omega arith) ∙ all_dropped xs)
  where
    all_dropped : {X : Type 0} (xs : List X) → drop (length xs) xs ≡ []
    all_dropped [] = refl
    all_dropped (x ∷ xs) = all_dropped xs

-- those that a window holds stay where older ones are given up
pub behind_stays : {X Y : Type 0} (see : X → Y) (dropped oldest behind : ℕ) (xs ys : List X) → oldest ≤ behind → ys ≡ drop (oldest - dropped) xs
    → map see (drop (behind - (dropped + (oldest - dropped))) ys) ≡ map see (drop (behind - dropped) xs)
behind_stays see dropped oldest behind xs ys le is =
    ap (map see) (ap (drop (behind - (dropped + (oldest - dropped)))) is
    ∙ drop-drop (behind - (dropped + (oldest - dropped))) (oldest - dropped) xs
    ∙ ap (λ (k : ℕ). drop k xs) (omega (arith, le)))

parts_short : {X : Type 0} (n : ℕ) (xs ys : List X) → n ≤ length xs
    → drop (min n (length xs)) xs ++ drop (min (n - length xs) (length ys)) ys ≡ drop n (xs ++ ys)
parts_short n xs ys le =
    (λ i. drop_min n xs i ++ (drop_min (n - length xs) ys ∙ ap (λ (k : ℕ). drop k ys) (sub-eq-zero_of_le le)) i)
    ∙ sym (drop-append-le n xs ys le)

parts_long : {X : Type 0} (n : ℕ) (xs ys : List X) → length xs ≤ n
    → drop (min n (length xs)) xs ++ drop (min (n - length xs) (length ys)) ys ≡ drop n (xs ++ ys)
parts_long n xs ys le =
    (λ i. (drop_min n xs ∙ drop_of_length-le xs le) i ++ drop_min (n - length xs) ys i)
    ∙ sym (drop-append-add xs ys (n - length xs))
    ∙ ap (λ (k : ℕ). drop k (xs ++ ys)) (omega (arith, le))

pub drop_in_parts : {X : Type 0} (n : ℕ) (xs ys : List X) → drop (min n (length xs)) xs ++ drop (min (n - length xs) (length ys)) ys ≡ drop n (xs ++ ys)
drop_in_parts n xs ys =
    elim (cases_Bool (leb n (length xs))) [
      | inl le ↦ parts_short n xs ys (leb-true n (length xs) le)
      | inr gt ↦ parts_long n xs ys (let more = leb-false n (length xs) gt in omega (arith, more))
    ]

any_seen : {X Y : Type 0} (see : X → Y) (test : Y → Bool) (xs : List X) → list_any test (map see xs) ≡ list_any (λ x. test (see x)) xs
any_seen see test [] = refl
any_seen see test (x ∷ xs) = ap (λ (b : Bool). test (see x) || b) (any_seen see test xs)

-- what both parts tell, all of them tell
any_in_parts : {X Y : Type 0} (see : X → Y) (test : Y → Bool) (all older newer : List X) → older ++ newer ≡ all
    → list_any test (map see all) ≡ (list_any (λ x. test (see x)) older || list_any (λ x. test (see x)) newer)
any_in_parts see test all older newer is =
    any_seen see test all ∙ ap (list_any (λ x. test (see x))) (sym is) ∙ list_any-append (λ x. test (see x)) older newer

pub told_by_older : {X Y : Type 0} (see : X → Y) (test : Y → Bool) (all older newer : List X) (one : Bool) → older ++ newer ≡ all
    → one ≡ list_any (λ x. test (see x)) older → one ≡ true → one ≡ list_any test (map see all)
told_by_older see test all older newer one are is told =
    told ∙ sym (any_in_parts see test all older newer are
    ∙ ap (λ (b : Bool). b || list_any (λ x. test (see x)) newer) (sym is ∙ told))

pub told_by_newer : {X Y : Type 0} (see : X → Y) (test : Y → Bool) (all older newer : List X) (one other : Bool) → older ++ newer ≡ all
    → one ≡ list_any (λ x. test (see x)) older → one ≡ false → other ≡ list_any (λ x. test (see x)) newer → other ≡ list_any test (map see all)
told_by_newer see test all older newer one other are is no_one other-is =
    other-is ∙ sym (any_in_parts see test all older newer are
    ∙ ap (λ (b : Bool). b || list_any (λ x. test (see x)) newer) (sym is ∙ no_one))
