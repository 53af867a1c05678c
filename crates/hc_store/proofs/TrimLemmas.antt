-- Dropping what is too heavy, one by one from the end.
use Rattle.std.proofs.Common.{◌≡◌, ℕ, zero, suc, ◌+◌, ◌-◌, ◌<◌, ◌≤◌, Bool, true, false, cond, ◌&&◌, List, [], ◌∷◌, ◌++◌, length, take, drop, Option, Some, None, refl, sym, ap, ◌∙◌, subst, arith, append-nil}
use Rattle.std.specs.Prelude.{nat_le, nat_lt, slice_get}
use Rattle.std.specs.Map.{values_of}
use Rattle.std.proofs.lemmas.Bool.{leb-true, le-leb, lt-leb, ltb-true, ltb-false}
use Rattle.std.proofs.lemmas.List.{take-append-drop}
use Rattle.std.proofs.lemmas.List.Sums.{sum_by-cons}
use Rattle.hc_head.specs.declared.head.Target.{Target}
use Rattle.hc_update.specs.declared.stored.Stored.{Stored}
use Rattle.hc_store.specs.Entries.{Entries, weight, variants_weight, entries_weight}
use Rattle.hc_store.specs.Changes.{first_keys, last_variants, keyed, trimmed}
use Rattle.hc_store.specs.Trims.{kept_beside, is_too_heavy, room_beside}

-- ---- weights of keys

pub entries_weight-cons : (e : Target × List Stored) (es : Entries) → entries_weight (e ∷ es) ≡ variants_weight e.1 + entries_weight es
entries_weight-cons e es = sum_by-cons variants_weight e.1 (values_of es)

pub entries_weight-append : (es fs : Entries) → entries_weight (es ++ fs) ≡ entries_weight es + entries_weight fs
entries_weight-append [] fs = omega arith
entries_weight-append (e ∷ es) fs = omega (arith, entries_weight-cons e (es ++ fs), entries_weight-cons e es, entries_weight-append es fs)

pub entries_weight-one : (e : Target × List Stored) → entries_weight (e ∷ []) ≡ variants_weight e.1
entries_weight-one e = omega (arith, entries_weight-cons e [])

-- ---- the first keys that there is room for

first_by : (room : ℕ) (e : Target × List Stored) (es : Entries) (b : Bool) → nat_le (variants_weight e.1) room ≡ b
    → first_keys room (e ∷ es) ≡ cond b (e ∷ first_keys (room - variants_weight e.1) es) []
first_by room e es b is = ap (λ (t : Bool). cond t (e ∷ first_keys (room - variants_weight e.1) es) []) is

-- where there is room for all, all stay
pub first_keys_all : (room : ℕ) (es : Entries) → entries_weight es ≤ room → first_keys room es ≡ es
first_keys_all room [] light = refl
first_keys_all room (e ∷ es) light =
    let whole = entries_weight-cons e es in
    first_by room e es true (le-leb (variants_weight e.1) room (omega (arith, light, whole)))
    ∙ ap (λ (l : Entries). e ∷ l) (first_keys_all (room - variants_weight e.1) es (omega (arith, light, whole)))

-- where there isn't, the last doesn't
pub first_keys_without_last : (room : ℕ) (es : Entries) (e : Target × List Stored) → room < entries_weight (es ++ e ∷ [])
    → first_keys room (es ++ e ∷ []) ≡ first_keys room es
first_keys_without_last room [] e heavy = first_by room e [] false (lt-leb (variants_weight e.1) room (omega (arith, heavy, entries_weight-one e)))
first_keys_without_last room (x ∷ xs) e heavy = by_test (nat_le (variants_weight x.1) room) refl (first_keys_without_last (room - variants_weight x.1) xs e)
  where
    by_test : (b : Bool) → nat_le (variants_weight x.1) room ≡ b
        → (room - variants_weight x.1 < entries_weight (xs ++ e ∷ []) → first_keys (room - variants_weight x.1) (xs ++ e ∷ []) ≡ first_keys (room - variants_weight x.1) xs)
        → first_keys room (x ∷ xs ++ e ∷ []) ≡ first_keys room (x ∷ xs)
    by_test true is rest =
        first_by room x (xs ++ e ∷ []) true is
        ∙ ap (λ (l : Entries). x ∷ l) (rest (omega (arith, heavy, leb-true (variants_weight x.1) room is, entries_weight-cons x (xs ++ e ∷ []))))
        ∙ sym (first_by room x xs true is)
    by_test false is rest = first_by room x (xs ++ e ∷ []) false is ∙ sym (first_by room x xs false is)

pub kept_beside_without_last : (room : Option ℕ) (es : Entries) (e : Target × List Stored) (others : ℕ) → others ≡ entries_weight (es ++ e ∷ [])
    → is_too_heavy others room ≡ true → kept_beside room (es ++ e ∷ []) ≡ kept_beside room es
kept_beside_without_last None es e others is heavy = refl
kept_beside_without_last (Some room) es e others is heavy = first_keys_without_last room es e (omega (arith, is, ltb-true room others heavy))

pub kept_beside_all : (room : Option ℕ) (es : Entries) (others : ℕ) → others ≡ entries_weight es → is_too_heavy others room ≡ false → kept_beside room es ≡ es
kept_beside_all None es others is light = absurd (cc)
kept_beside_all (Some room) es others is light = first_keys_all room es (omega (arith, is, ltb-false room others light))

kept_beside_none : (room : Option ℕ) → kept_beside room [] ≡ []
kept_beside_none None = refl
kept_beside_none (Some room) = refl

-- ---- the last of a list

record Ends {X : Type 0} (xs : List X) (k : ℕ) : Type 0 where
  front : List X
  last : X
  is : xs ≡ front ++ last ∷ []
  get : slice_get xs k ≡ Some last
  cut : take k xs ≡ front

ends : {X : Type 0} (xs : List X) (k : ℕ) → length xs ≡ suc k → Ends xs k
ends [] k size = absurd (omega (arith, size))
ends (x ∷ []) zero size = record { front = []; last = x; is = refl; get = refl; cut = refl }
ends (x ∷ []) (suc k) size = absurd (omega (arith, size))
ends (x ∷ y ∷ ys) zero size = absurd (omega (arith, size))
ends {X} (x ∷ y ∷ ys) (suc k) size =
    let rest = ends (y ∷ ys) k (omega (arith, size)) in
    record { front = x ∷ rest.front; last = rest.last; is = ap (λ (l : List X). x ∷ l) rest.is; get = rest.get; cut = ap (λ (l : List X). x ∷ l) rest.cut }

-- ---- the loop that drops the least recent keys

-- what is left of the keys leads to what has to be left of all, and the others weigh so much
pub record Trims (room : Option ℕ) (start : Entries) (others : ℕ) (now : Entries) : Type 0 where
  pub first : take 1 now ≡ take 1 start
  pub leads : kept_beside room (drop 1 now) ≡ kept_beside room (drop 1 start)
  pub weighs : others ≡ entries_weight (drop 1 now)

both_second : (a b : Bool) → (a && b) ≡ true → b ≡ true
both_second true b both = both
both_second false b both = absurd (cc)

second_fails : (a b : Bool) → (a && b) ≡ false → a ≡ true → b ≡ false
second_fails true b fails first = fails
second_fails false b fails first = absurd (cc)

some_is : {X : Type 0} {a b : X} → Some a ≡ Some b → a ≡ b
some_is same = cc

-- the last of two and more
last_at : (f x : Target × List Stored) (xs : Entries) (e : Target × List Stored) → slice_get (f ∷ x ∷ xs) (length (f ∷ x ∷ xs) - 1) ≡ Some e
    → slice_get (x ∷ xs) (length xs) ≡ Some e
last_at f x xs e is = subst (λ (k : ℕ). slice_get (f ∷ x ∷ xs) k ≡ Some e) (two_less (length xs)) is
  where
    two_less : (n : ℕ) → suc (suc n) - 1 ≡ suc n
    two_less n = omega arith

-- one that is dropped is part of the others
pub dropped_is_part : (room : Option ℕ) (start now : Entries) (others : ℕ) (e : Target × List Stored) → Trims room start others now
    → (nat_lt 1 (length now) && is_too_heavy others room) ≡ true → slice_get now (length now - 1) ≡ Some e → variants_weight e.1 ≤ others
dropped_is_part room start [] others e trims drops is = absurd (cc)
dropped_is_part room start (f ∷ []) others e trims drops is = absurd (cc)
dropped_is_part room start (f ∷ x ∷ xs) others e trims drops is =
    let tail = ends (x ∷ xs) (length xs) refl in
    let same : tail.last ≡ e = some_is (sym tail.get ∙ last_at f x xs e is) in
    omega (arith, trims.weighs, ap entries_weight tail.is, entries_weight-append tail.front (tail.last ∷ []), entries_weight-one tail.last, ap (λ (y : Target × List Stored). variants_weight y.1) same)

pub one_dropped : (room : Option ℕ) (start now new : Entries) (others : ℕ) (e : Target × List Stored) → Trims room start others now
    → (nat_lt 1 (length now) && is_too_heavy others room) ≡ true → slice_get now (length now - 1) ≡ Some e → new ≡ take (length now - 1) now
    → Trims room start (others - variants_weight e.1) new
one_dropped room start [] new others e trims drops is cut = absurd (cc)
one_dropped room start (f ∷ []) new others e trims drops is cut = absurd (cc)
one_dropped room start (f ∷ x ∷ xs) new others e trims drops is cut =
    let tail = ends (x ∷ xs) (length xs) refl in
    let same : tail.last ≡ e = some_is (sym tail.get ∙ last_at f x xs e is) in
    let two_less : length (f ∷ x ∷ xs) - 1 ≡ suc (length xs) = omega arith in
    let new_is : new ≡ f ∷ tail.front = cut ∙ ap (λ (k : ℕ). take k (f ∷ x ∷ xs)) two_less ∙ ap (λ (l : Entries). f ∷ l) tail.cut in
    let weighs : others ≡ entries_weight (tail.front ++ tail.last ∷ []) = trims.weighs ∙ ap entries_weight tail.is in
    record {
      first = ap (take 1) new_is ∙ trims.first;
      leads = ap (λ (l : Entries). kept_beside room (drop 1 l)) new_is
          ∙ sym (kept_beside_without_last room tail.front tail.last others weighs (both_second (nat_lt 1 (length (f ∷ x ∷ xs))) _ drops))
          ∙ sym (ap (kept_beside room) tail.is) ∙ trims.leads;
      weighs = omega (
        arith,
        weighs,
        entries_weight-append tail.front (tail.last ∷ []),
        entries_weight-one tail.last,
        ap (λ (y : Target × List Stored). variants_weight y.1) same,
        ap (λ (l : Entries). entries_weight (drop 1 l)) new_is,
      );
    }

-- at its end there is what has to be left
pub all_dropped : (room : Option ℕ) (start now : Entries) (others : ℕ) → Trims room start others now
    → (nat_lt 1 (length now) && is_too_heavy others room) ≡ false
    → (now ≡ take 1 start ++ kept_beside room (drop 1 start)) × (others ≡ entries_weight (kept_beside room (drop 1 start)))
all_dropped room start now others trims stays =
    let same = rest now others trims.weighs stays in (
      sym (take-append-drop 1 now) ∙ ap (λ (l : Entries). l ++ drop 1 now) trims.first ∙ ap (λ (l : Entries). take 1 start ++ l) (sym same ∙ trims.leads),
      trims.weighs ∙ ap entries_weight (sym same ∙ trims.leads),
    )
  where
    rest : (now : Entries) (others : ℕ) → others ≡ entries_weight (drop 1 now) → (nat_lt 1 (length now) && is_too_heavy others room) ≡ false
        → kept_beside room (drop 1 now) ≡ drop 1 now
    rest [] others weighs stays = kept_beside_none room
    rest (f ∷ []) others weighs stays = kept_beside_none room
    rest (f ∷ x ∷ xs) others weighs stays = kept_beside_all room (x ∷ xs) others weighs (second_fails (nat_lt 1 (length (f ∷ x ∷ xs))) _ stays (le-leb 2 (length (f ∷ x ∷ xs)) (omega arith)))

-- ---- the loop that drops the first variants

last_by : (room : ℕ) (v : Stored) (vs : List Stored) (b : Bool) → nat_le (variants_weight (v ∷ vs)) room ≡ b
    → last_variants room (v ∷ vs) ≡ cond b (v ∷ vs) (last_variants room vs)
last_by room v vs b is = ap (λ (t : Bool). cond t (v ∷ vs) (last_variants room vs)) is

pub last_variants_all : (room : ℕ) (vs : List Stored) → variants_weight vs ≤ room → last_variants room vs ≡ vs
last_variants_all room [] light = refl
last_variants_all room (v ∷ vs) light = last_by room v vs true (le-leb (variants_weight (v ∷ vs)) room light)

pub last_variants_next : (room : ℕ) (vs : List Stored) → room < variants_weight vs → last_variants room (drop 1 vs) ≡ last_variants room vs
last_variants_next room [] heavy = refl
last_variants_next room (v ∷ vs) heavy = sym (last_by room v vs false (lt-leb (variants_weight (v ∷ vs)) room heavy))

pub heavy_is_there : (room : ℕ) (vs : List Stored) → room < variants_weight vs → 0 < length vs
heavy_is_there room [] heavy = absurd (omega (arith, heavy))
heavy_is_there room (v ∷ vs) heavy = omega arith

-- where keys have to be dropped there is a last one
pub last_is_there : (now : Entries) (b : Bool) → (nat_lt 1 (length now) && b) ≡ true → slice_get now (length now - 1) ≡ None → ⊥
last_is_there [] b drops none = cc
last_is_there (f ∷ []) b drops none = cc
last_is_there (f ∷ x ∷ xs) b drops none =
    let tail = ends (x ∷ xs) (length xs) refl in
    some_is_none (sym tail.get ∙ subst (λ (k : ℕ). slice_get (f ∷ x ∷ xs) k ≡ None) (two_less (length xs)) none)
  where
    two_less : (n : ℕ) → suc (suc n) - 1 ≡ suc n
    two_less n = omega arith

    some_is_none : {X : Type 0} {a : X} → Some a ≡ None → ⊥
    some_is_none same = cc

-- ---- how much stays

pub first_keys_light : (room : ℕ) (es : Entries) → entries_weight (first_keys room es) ≤ room
first_keys_light room [] = omega arith
first_keys_light room (e ∷ es) = by_test (nat_le (variants_weight e.1) room) refl (first_keys_light (room - variants_weight e.1) es)
  where
    by_test : (b : Bool) → nat_le (variants_weight e.1) room ≡ b → entries_weight (first_keys (room - variants_weight e.1) es) ≤ room - variants_weight e.1
        → entries_weight (first_keys room (e ∷ es)) ≤ room
    by_test true is rest =
        omega (arith, rest, leb-true (variants_weight e.1) room is, ap entries_weight (first_by room e es true is), entries_weight-cons e (first_keys (room - variants_weight e.1) es))
    by_test false is rest = omega (arith, ap entries_weight (first_by room e es false is))

pub last_variants_light : (room : ℕ) (vs : List Stored) → variants_weight (last_variants room vs) ≤ room
last_variants_light room [] = omega arith
last_variants_light room (v ∷ vs) = by_test (nat_le (variants_weight (v ∷ vs)) room) refl (last_variants_light room vs)
  where
    by_test : (b : Bool) → nat_le (variants_weight (v ∷ vs)) room ≡ b → variants_weight (last_variants room vs) ≤ room → variants_weight (last_variants room (v ∷ vs)) ≤ room
    by_test true is rest = omega (arith, leb-true (variants_weight (v ∷ vs)) room is, ap variants_weight (last_by room v vs true is))
    by_test false is rest = omega (arith, rest, ap variants_weight (last_by room v vs false is))

room_by : (bytes first : ℕ) (b : Bool) → nat_le first bytes ≡ b → room_beside bytes first ≡ cond b (Some (bytes - first)) None
room_by bytes first b is = ap (λ (t : Bool). cond t (Some (bytes - first)) None) is

-- what stays of the most recent key and what stays beside it are light enough together
pub settled_light : (bytes : ℕ) (vs : List Stored) (others : Entries)
    → variants_weight (last_variants bytes vs) + entries_weight (kept_beside (room_beside bytes (variants_weight vs)) others) ≤ bytes
settled_light bytes vs others = by_test (nat_le (variants_weight vs) bytes) refl
  where
    by_test : (b : Bool) → nat_le (variants_weight vs) bytes ≡ b
        → variants_weight (last_variants bytes vs) + entries_weight (kept_beside (room_beside bytes (variants_weight vs)) others) ≤ bytes
    by_test true is =
        let small = leb-true (variants_weight vs) bytes is in
        omega (
          arith,
          small,
          ap variants_weight (last_variants_all bytes vs small),
          first_keys_light (bytes - variants_weight vs) others,
          ap (λ (r : Option ℕ). entries_weight (kept_beside r others)) (room_by bytes (variants_weight vs) true is),
        )
    by_test false is =
        omega (arith, last_variants_light bytes vs, ap (λ (r : Option ℕ). entries_weight (kept_beside r others)) (room_by bytes (variants_weight vs) false is))

-- trimming, in two steps
pub trimmed_is : (bytes : ℕ) (target : Target) (vs : List Stored) (others : Entries) → 0 < length vs
    → trimmed bytes ((target, vs) ∷ others) ≡ keyed target (last_variants bytes vs) ++ kept_beside (room_beside bytes (variants_weight vs)) others
trimmed_is bytes target [] others some = absurd (omega (arith, some))
trimmed_is bytes target (v ∷ vs) others some = by_test (nat_le (variants_weight (v ∷ vs)) bytes) refl
  where
    opened : (b : Bool) → nat_le (variants_weight (v ∷ vs)) bytes ≡ b
        → trimmed bytes ((target, v ∷ vs) ∷ others)
        ≡ cond b ((target, v ∷ vs) ∷ first_keys (bytes - variants_weight (v ∷ vs)) others) (keyed target (last_variants bytes (v ∷ vs)))
    opened b is = ap (λ (t : Bool). cond t ((target, v ∷ vs) ∷ first_keys (bytes - variants_weight (v ∷ vs)) others) (keyed target (last_variants bytes (v ∷ vs)))) is

    by_test : (b : Bool) → nat_le (variants_weight (v ∷ vs)) bytes ≡ b
        → trimmed bytes ((target, v ∷ vs) ∷ others)
        ≡ keyed target (last_variants bytes (v ∷ vs)) ++ kept_beside (room_beside bytes (variants_weight (v ∷ vs))) others
    by_test true is =
        opened true is
        ∙ sym (ap (λ (l : List Stored). keyed target l ++ first_keys (bytes - variants_weight (v ∷ vs)) others) (last_by bytes v vs true is))
        ∙ sym (ap (λ (r : Option ℕ). keyed target (last_variants bytes (v ∷ vs)) ++ kept_beside r others) (room_by bytes (variants_weight (v ∷ vs)) true is))
    by_test false is =
        opened false is
        ∙ sym (append-nil (keyed target (last_variants bytes (v ∷ vs))))
        ∙ sym (ap (λ (r : Option ℕ). keyed target (last_variants bytes (v ∷ vs)) ++ kept_beside r others) (room_by bytes (variants_weight (v ∷ vs)) false is))

-- what was added last stays where it is light enough itself
pub last_added_stays : (bytes : ℕ) (vs : List Stored) (stored : Stored) → weight stored ≤ bytes → 0 < length (last_variants bytes (vs ++ stored ∷ []))
last_added_stays bytes [] stored light =
    omega (arith, ap length (last_variants_all bytes (stored ∷ []) (omega (arith, light, sum_by-cons weight stored []))))
last_added_stays bytes (v ∷ vs) stored light = by_test (nat_le (variants_weight (v ∷ vs ++ stored ∷ [])) bytes) refl (last_added_stays bytes vs stored light)
  where
    by_test : (b : Bool) → nat_le (variants_weight (v ∷ vs ++ stored ∷ [])) bytes ≡ b → 0 < length (last_variants bytes (vs ++ stored ∷ []))
        → 0 < length (last_variants bytes (v ∷ vs ++ stored ∷ []))
    by_test true is rest = omega (arith, ap length (last_by bytes v (vs ++ stored ∷ []) true is))
    by_test false is rest = omega (arith, rest, ap length (last_by bytes v (vs ++ stored ∷ []) false is))
