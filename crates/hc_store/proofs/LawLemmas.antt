-- What the definitions of choosing and trimming come to.
use Rattle.std.proofs.Common.{◌≡◌, ℕ, ◌-◌, ◌<◌, ◌≤◌, Bool, true, false, cond, ◌&&◌, ◌||◌, ◌==◌, List, [], ◌∷◌, ◌++◌, length, take, Some, None, refl, sym, ap, ◌∙◌, subst, arith, append_assoc, append-nil}
use Rattle.std.specs.Prelude.{nat_le, nat_lt, filter}
use Rattle.std.specs.List.{AllByRecursion, best_of, list_any}
use Rattle.std.proofs.lemmas.Bool.{leb-true, le-leb}
use Rattle.std.proofs.lemmas.Bool.Decides.{nat_tests}
use Rattle.hc_head.specs.declared.head.Target.{Target}
use Rattle.hc_update.specs.declared.stored.Stored.{Stored}
use Rattle.hc_store.specs.Entries.{Entries, entries_weight, variants_of, variants_weight, weight}
use Rattle.hc_store.specs.Choosing.{first_choice, goes_before}
use Rattle.hc_store.specs.Changes.{added, after_put, first_keys, keyed, last_variants, trimmed, without}
use Rattle.hc_store.specs.Laws.{IsFirstChoice}
use Rattle.hc_store.specs.Trims.{kept_beside, room_beside}
use Rattle.hc_store.proofs.TrimLemmas.{entries_weight-cons, first_keys_all, first_keys_light, last_variants_light, last_added_stays}
use Rattle.hc_store.proofs.KeyLemmas.{added_some, cons_taken, first_variants, settled, keyed_weighs}

-- ---- the order of choice

later_chain : (a b c d e f : ℕ) → (nat_lt c a || (a == c && nat_le d b)) ≡ true → (nat_lt e c || (c == e && nat_le f d)) ≡ true
    → (nat_lt e a || (a == e && nat_le f b)) ≡ true
later_chain a b c d e f one two = grind (arith, nat_tests)

later_total : (a b c d : ℕ) → (nat_lt c a || (a == c && nat_le d b)) ≡ false → (nat_lt a c || (c == a && nat_le b d)) ≡ true
later_total a b c d fails = grind (arith, nat_tests)

chain : (x y z : Stored) → goes_before x y ≡ true → goes_before y z ≡ true → goes_before x z ≡ true
chain x y z one two = later_chain x.times.date x.times.response_time y.times.date y.times.response_time z.times.date z.times.response_time one two

total : (x y : Stored) → goes_before x y ≡ false → goes_before y x ≡ true
total x y fails = later_total x.times.date x.times.response_time y.times.date y.times.response_time fails

-- ---- the first of a list

record Splits (all : List Stored) (best : Stored) : Type 0 where
  front : List Stored
  back : List Stored
  is : all ≡ front ++ best ∷ back
  older : AllByRecursion (λ w. goes_before best w ≡ true) front
  newer : AllByRecursion (λ w. goes_before w best ≡ false) back

all_push : (P : Stored → Type 0) (xs : List Stored) (x : Stored) → AllByRecursion P xs → P x → AllByRecursion P (xs ++ x ∷ [])
all_push P [] x all here = (here, tt)
all_push P (y ∷ ys) x all here = (all.0, all_push P ys x all.1 here)

all_both : (P : Stored → Type 0) (xs ys : List Stored) → AllByRecursion P xs → AllByRecursion P ys → AllByRecursion P (xs ++ ys)
all_both P [] ys one two = two
all_both P (x ∷ xs) ys one two = (one.0, all_both P xs ys one.1 two)

all_weaker : (P Q : Stored → Type 0) (xs : List Stored) → ((x : Stored) → P x → Q x) → AllByRecursion P xs → AllByRecursion Q xs
all_weaker P Q [] to all = tt
all_weaker P Q (x ∷ xs) to all = (to x all.0, all_weaker P Q xs to all.1)

-- the best so far goes before those before it, and none between it and what is left goes before it
best_splits : (front : List Stored) (best : Stored) (mid rest : List Stored) → AllByRecursion (λ w. goes_before best w ≡ true) front
    → AllByRecursion (λ w. goes_before w best ≡ false) mid → Splits (front ++ (best ∷ mid ++ rest)) (best_of goes_before best rest)
best_splits front best mid [] older newer = record {
  front = front;
  back = mid;
  is = ap (λ (l : List Stored). front ++ best ∷ l) (append-nil mid);
  older = older;
  newer = newer;
}
best_splits front best mid (x ∷ rest) older newer = by_test (goes_before x best) refl
    (λ after. best_splits (front ++ best ∷ mid) x [] rest after tt)
    (λ after. best_splits front best (mid ++ x ∷ []) rest older after)
  where
    by_test : (b : Bool) → goes_before x best ≡ b
        → (AllByRecursion (λ w. goes_before x w ≡ true) (front ++ best ∷ mid) → Splits ((front ++ best ∷ mid) ++ (x ∷ rest)) (best_of goes_before x rest))
        → (AllByRecursion (λ w. goes_before w best ≡ false) (mid ++ x ∷ []) → Splits (front ++ (best ∷ ((mid ++ x ∷ []) ++ rest))) (best_of goes_before best rest))
        → Splits (front ++ (best ∷ (mid ++ x ∷ rest))) (best_of goes_before (cond (goes_before x best) x best) rest)
    by_test true is taken kept =
        subst (λ (t : Bool). Splits (front ++ (best ∷ (mid ++ x ∷ rest))) (best_of goes_before (cond t x best) rest)) (sym is)
        (subst (λ (l : List Stored). Splits l (best_of goes_before x rest)) (append_assoc front (best ∷ mid) (x ∷ rest))
        (taken (all_both (λ w. goes_before x w ≡ true) front (best ∷ mid)
        (all_weaker (λ w. goes_before best w ≡ true) (λ w. goes_before x w ≡ true) front (λ w before. chain x best w is before) older)
        (is, all_weaker (λ w. goes_before w best ≡ false) (λ w. goes_before x w ≡ true) mid (λ w fails. chain x best w is (total w best fails)) newer))))
    by_test false is taken kept =
        subst (λ (t : Bool). Splits (front ++ (best ∷ (mid ++ x ∷ rest))) (best_of goes_before (cond t x best) rest)) (sym is)
        (subst (λ (l : List Stored). Splits (front ++ (best ∷ l)) (best_of goes_before best rest)) (append_assoc mid (x ∷ []) rest)
        (kept (all_push (λ w. goes_before w best ≡ false) mid x newer is)))

first_splits : (xs : List Stored) (v : Stored) → first_choice xs ≡ Some v → Splits xs v
first_splits [] v is = absurd (cc)
first_splits (x ∷ xs) v is = subst (Splits (x ∷ xs)) (some_is is) (best_splits [] x [] xs tt tt)
  where
    some_is : {X : Type 0} {a b : X} → Some a ≡ Some b → a ≡ b
    some_is same = cc

-- ---- behind a test

record Unfiltered (test : Stored → Bool) (xs front : List Stored) (v : Stored) (back : List Stored) : Type 0 where
  before : List Stored
  behind : List Stored
  is : xs ≡ before ++ v ∷ behind
  passes : test v ≡ true
  fore : filter test before ≡ front
  aft : filter test behind ≡ back

unfiltered : (test : Stored → Bool) (xs front : List Stored) (v : Stored) (back : List Stored) → filter test xs ≡ front ++ v ∷ back → Unfiltered test xs front v back
unfiltered test [] [] v back is = absurd (cc)
unfiltered test [] (f ∷ front) v back is = absurd (cc)
unfiltered test (x ∷ xs) front v back is = by_test (test x) refl front is (λ f e. unfiltered test xs f v back e)
  where
    head_is : {a b : Stored} {l m : List Stored} → a ∷ l ≡ b ∷ m → a ≡ b
    head_is same = cc

    tail_is : {a b : Stored} {l m : List Stored} → a ∷ l ≡ b ∷ m → l ≡ m
    tail_is same = cc

    by_test : (b : Bool) → test x ≡ b → (front : List Stored) → filter test (x ∷ xs) ≡ front ++ v ∷ back
        → ((f : List Stored) → filter test xs ≡ f ++ v ∷ back → Unfiltered test xs f v back) → Unfiltered test (x ∷ xs) front v back
    by_test true passes [] is rest =
        let opened : x ∷ filter test xs ≡ v ∷ back = sym (ap (λ (t : Bool). cond t (x ∷ filter test xs) (filter test xs)) passes) ∙ is in
        record {
          before = [];
          behind = xs;
          is = ap (λ (y : Stored). y ∷ xs) (head_is opened);
          passes = ap test (sym (head_is opened)) ∙ passes;
          fore = refl;
          aft = tail_is opened;
        }
    by_test true passes (f ∷ front) is rest =
        let opened : x ∷ filter test xs ≡ f ∷ front ++ v ∷ back = sym (ap (λ (t : Bool). cond t (x ∷ filter test xs) (filter test xs)) passes) ∙ is in
        let later = rest front (tail_is opened) in
        record {
          before = x ∷ later.before;
          behind = later.behind;
          is = ap (λ (l : List Stored). x ∷ l) later.is;
          passes = later.passes;
          fore = ap (λ (t : Bool). cond t (x ∷ filter test later.before) (filter test later.before)) passes
              ∙ ap (λ (l : List Stored). x ∷ l) later.fore ∙ ap (λ (y : Stored). y ∷ front) (head_is opened);
          aft = later.aft;
        }
    by_test false fails front is rest =
        let later = rest front (sym (ap (λ (t : Bool). cond t (x ∷ filter test xs) (filter test xs)) fails) ∙ is) in
        record {
          before = x ∷ later.before;
          behind = later.behind;
          is = ap (λ (l : List Stored). x ∷ l) later.is;
          passes = later.passes;
          fore = ap (λ (t : Bool). cond t (x ∷ filter test later.before) (filter test later.before)) fails ∙ later.fore;
          aft = later.aft;
        }

pub first_choice_is : (test : Stored → Bool) (variants : List Stored) (choice : Stored) → first_choice (filter test variants) ≡ Some choice
    → IsFirstChoice test variants choice
first_choice_is test variants choice is =
    let split = first_splits (filter test variants) choice is in
    let parts = unfiltered test variants split.front choice split.back split.is in
    record {
      before = parts.before;
      behind = parts.behind;
      there = parts.is;
      passes = parts.passes;
      goes_first = subst (AllByRecursion (λ older. goes_before choice older ≡ true)) (sym parts.fore) split.older;
      goes_last = subst (AllByRecursion (λ newer. goes_before newer choice ≡ false)) (sym parts.aft) split.newer;
    }

pub none_chosen : (test : Stored → Bool) (variants : List Stored) → first_choice (filter test variants) ≡ None → list_any test variants ≡ false
none_chosen test [] none = refl
none_chosen test (x ∷ xs) none = by_test (test x) refl (none_chosen test xs)
  where
    by_test : (b : Bool) → test x ≡ b → (first_choice (filter test xs) ≡ None → list_any test xs ≡ false) → list_any test (x ∷ xs) ≡ false
    by_test true is rest = absurd (some_none (sym (ap (λ (t : Bool). first_choice (cond t (x ∷ filter test xs) (filter test xs))) is) ∙ none))
      where
        some_none : {X : Type 0} {a : X} → Some a ≡ None → ⊥
        some_none same = cc
    by_test false is rest =
        ap (λ (t : Bool). t || list_any test xs) is
        ∙ rest (sym (ap (λ (t : Bool). first_choice (cond t (x ∷ filter test xs) (filter test xs))) is) ∙ none)

-- ---- trimming

pub trimmed_all : (bytes : ℕ) (es : Entries) → entries_weight es ≤ bytes → trimmed bytes es ≡ es
trimmed_all bytes [] light = refl
trimmed_all bytes (e ∷ es) light =
    ap (λ (t : Bool). cond t (e ∷ first_keys (bytes - variants_weight e.1) es) (keyed e.0 (last_variants bytes e.1)))
    (le-leb (variants_weight e.1) bytes (omega (arith, light, entries_weight-cons e es)))
    ∙ ap (λ (l : Entries). e ∷ l) (first_keys_all (bytes - variants_weight e.1) es (omega (arith, light, entries_weight-cons e es)))

pub trimmed_light : (bytes : ℕ) (es : Entries) → entries_weight (trimmed bytes es) ≤ bytes
trimmed_light bytes [] = omega arith
trimmed_light bytes (e ∷ es) = by_test (nat_le (variants_weight e.1) bytes) refl
  where
    by_test : (b : Bool) → nat_le (variants_weight e.1) bytes ≡ b
        → entries_weight (cond (nat_le (variants_weight e.1) bytes) (e ∷ first_keys (bytes - variants_weight e.1) es) (keyed e.0 (last_variants bytes e.1))) ≤ bytes
    by_test true is =
        omega (
          arith,
          leb-true (variants_weight e.1) bytes is,
          entries_weight-cons e (first_keys (bytes - variants_weight e.1) es),
          first_keys_light (bytes - variants_weight e.1) es,
          ap (λ (t : Bool). entries_weight (cond t (e ∷ first_keys (bytes - variants_weight e.1) es) (keyed e.0 (last_variants bytes e.1)))) is,
        )
    by_test false is =
        omega (
          arith,
          keyed_weighs e.0 (last_variants bytes e.1) [],
          ap entries_weight (append-nil (keyed e.0 (last_variants bytes e.1))),
          last_variants_light bytes e.1,
          ap (λ (t : Bool). entries_weight (cond t (e ∷ first_keys (bytes - variants_weight e.1) es) (keyed e.0 (last_variants bytes e.1)))) is,
        )

-- ---- what is put

-- of variants whose last one is light enough, the last stays
last_stays : (bytes : ℕ) (vs : List Stored) (stored : Stored) → weight stored ≤ bytes
    → (earlier : List Stored) × (last_variants bytes (vs ++ stored ∷ []) ≡ earlier ++ stored ∷ [])
last_stays bytes [] stored light = by_test (nat_le (variants_weight (stored ∷ [])) bytes) refl
  where
    by_test : (b : Bool) → nat_le (variants_weight (stored ∷ [])) bytes ≡ b
        → (earlier : List Stored) × (last_variants bytes (stored ∷ []) ≡ earlier ++ stored ∷ [])
    by_test true is = ([], ap (λ (t : Bool). cond t (stored ∷ []) []) is)
    by_test false is = absurd (omega (arith, last_added_stays bytes [] stored light, ap (λ (t : Bool). length (cond t (stored ∷ []) (last_variants bytes []))) is))
last_stays bytes (v ∷ vs) stored light = by_test (nat_le (variants_weight (v ∷ vs ++ stored ∷ [])) bytes) refl (last_stays bytes vs stored light)
  where
    by_test : (b : Bool) → nat_le (variants_weight (v ∷ vs ++ stored ∷ [])) bytes ≡ b
        → (earlier : List Stored) × (last_variants bytes (vs ++ stored ∷ []) ≡ earlier ++ stored ∷ [])
        → (earlier : List Stored) × (last_variants bytes (v ∷ vs ++ stored ∷ []) ≡ earlier ++ stored ∷ [])
    by_test true is rest = (v ∷ vs, ap (λ (t : Bool). cond t (v ∷ vs ++ stored ∷ []) (last_variants bytes (vs ++ stored ∷ []))) is)
    by_test false is rest = (rest.0, ap (λ (t : Bool). cond t (v ∷ vs ++ stored ∷ []) (last_variants bytes (vs ++ stored ∷ []))) is ∙ rest.1)

pub put_is_there : (keys bytes : ℕ) (target : Target) (stored : Stored) (entries : Entries) → 0 < keys → weight stored ≤ bytes
    → (earlier : List Stored) × (variants_of target (after_put keys bytes target stored entries) ≡ earlier ++ stored ∷ [])
put_is_there keys bytes target stored entries some light =
    let vs = added stored (variants_of target entries) in
    let last = last_stays bytes _ stored light in (
      last.0,
      ap (λ (l : Entries). variants_of target (trimmed bytes l)) (cons_taken keys (target, vs) (without target entries) some)
          ∙ ap (variants_of target) (settled bytes target vs (take (keys - 1) (without target entries)) (added_some stored (variants_of target entries)) (last_added_stays bytes _ stored light))
          ∙ first_variants target (last_variants bytes vs) (kept_beside (room_beside bytes (variants_weight vs)) (take (keys - 1) (without target entries)))
          ∙ last.1,
    )
