-- What changes of one key make of all.
use Rattle.std.proofs.Common.{map, ◌||◌, inl, inr, ne_eqb, ◌≡◌, ℕ, zero, suc, ◌+◌, ◌-◌, ◌<◌, ◌≤◌, Bool, true, false, cond, List, [], ◌∷◌, ◌++◌, length, take, Option, Some, None, refl, sym, ap, ◌∙◌, subst, arith, length-append}
use Rattle.std.specs.Prelude.{unwrap_or, slice_get, ◌==◌, not, filter, Result, Ok, Err, OnErr}
use Rattle.std.specs.Option.{is_some, option_map_or}
use Rattle.std.specs.List.{list_any, AllByRecursion}
use Rattle.std.specs.Map.{lookup, lookup_entry, remove_entry, set_value}
use Rattle.std.proofs.lemmas.List.{take_all}
use Rattle.std.proofs.lemmas.Map.Entries.{sum_by-set_value}
use Rattle.std.proofs.lemmas.List.Sums.{sum_by-cons}
use Rattle.lru.specs.LruCache.{LruCache, lru_cache, promoted}
use Rattle.hc_head.specs.declared.head.Target.{Target}
use Rattle.hc_head.specs.Targets.{same_target}
use Rattle.hc_head.proofs.SameTargetLemmas.{same_target_one, same_target_itself}
use Rattle.hc_update.specs.declared.stored.Stored.{Stored}
use Rattle.hc_store.specs.Entries.{Entries, Holdings, knows, variants_of, variants_weight, entries_weight, weight, most_variants, HasFewVariants}
use Rattle.hc_store.specs.Changes.{without, keyed, trimmed, last_variants, last_ones, added, after_put, with_variants, Validation, Leaves, after_validation, is_validated, renewed}
use Rattle.hc_store.specs.Choosing.{is_selected}
use Rattle.hc_store.specs.Trims.{kept_beside, room_beside, dropped_weight, without_empty}
use Rattle.hc_store.proofs.TrimLemmas.{entries_weight-cons, trimmed_is, last_added_stays}

-- ---- a key that is there

-- what is there of it, and what a change of that makes of all keys
pub record Known (target : Target) (es : Entries) (old : List Stored) : Type 0 where
  pub variants : variants_of target es ≡ old
  pub is_known : knows target es ≡ true
  pub weighs : entries_weight (without target es) + variants_weight old ≡ entries_weight es
  pub one_less : length (without target es) + 1 ≡ length es
  pub same : set_value (same_target target) es old ≡ es
  pub first : (new : List Stored) → promoted (same_target target) (set_value (same_target target) es new) ≡ (target, new) ∷ without target es
  pub there : (new : List Stored) → lookup (same_target target) (set_value (same_target target) es new) ≡ Some new
  pub set_weighs : (new : List Stored) → entries_weight (set_value (same_target target) es new) + variants_weight old ≡ entries_weight es + variants_weight new
  pub gone : (new : List Stored) → without target (set_value (same_target target) es new) ≡ without target es

-- the entry that a changed key has, and the others
record Changed (target : Target) (es : Entries) (new : List Stored) : Type 0 where
  entry : lookup_entry (same_target target) (set_value (same_target target) es new) ≡ Some (target, new)
  value : lookup (same_target target) (set_value (same_target target) es new) ≡ Some new
  others : without target (set_value (same_target target) es new) ≡ without target es

changed : (target : Target) (es : Entries) (old new : List Stored) → lookup (same_target target) es ≡ Some old → Changed target es new
changed target [] old new found = absurd (cc)
changed target (e ∷ es) old new found = by_test (same_target target e.0) refl (changed target es old new)
  where
    by_test : (b : Bool) → same_target target e.0 ≡ b → (lookup (same_target target) es ≡ Some old → Changed target es new) → Changed target (e ∷ es) new
    by_test true is rest =
        let here : set_value (same_target target) (e ∷ es) new ≡ (e.0, new) ∷ es = ap (λ (t : Bool). cond t ((e.0, new) ∷ es) (e ∷ set_value (same_target target) es new)) is in
        record {
          entry = ap (lookup_entry (same_target target)) here
              ∙ ap (λ (t : Bool). cond t (Some (e.0, new)) (lookup_entry (same_target target) es)) is
              ∙ ap (λ (k : Target). Some (k, new)) (sym (same_target_one target e.0 is));
          value = ap (lookup (same_target target)) here ∙ ap (λ (t : Bool). cond t (Some new) (lookup (same_target target) es)) is;
          others = ap (remove_entry (same_target target)) here
              ∙ ap (λ (t : Bool). cond t es ((e.0, new) ∷ remove_entry (same_target target) es)) is
              ∙ sym (ap (λ (t : Bool). cond t es (e ∷ remove_entry (same_target target) es)) is);
        }
    by_test false is rest =
        let here : set_value (same_target target) (e ∷ es) new ≡ e ∷ set_value (same_target target) es new = ap (λ (t : Bool). cond t ((e.0, new) ∷ es) (e ∷ set_value (same_target target) es new)) is in
        let later = rest (sym (ap (λ (t : Bool). cond t (Some e.1) (lookup (same_target target) es)) is) ∙ found) in
        record {
          entry = ap (lookup_entry (same_target target)) here
              ∙ ap (λ (t : Bool). cond t (Some e) (lookup_entry (same_target target) (set_value (same_target target) es new))) is
              ∙ later.entry;
          value = ap (lookup (same_target target)) here ∙ ap (λ (t : Bool). cond t (Some e.1) (lookup (same_target target) (set_value (same_target target) es new))) is ∙ later.value;
          others = ap (remove_entry (same_target target)) here
              ∙ ap (λ (t : Bool). cond t (set_value (same_target target) es new) (e ∷ remove_entry (same_target target) (set_value (same_target target) es new))) is
              ∙ ap (λ (l : Entries). e ∷ l) later.others
              ∙ sym (ap (λ (t : Bool). cond t es (e ∷ remove_entry (same_target target) es)) is);
        }

unchanged : (target : Target) (es : Entries) (old : List Stored) → lookup (same_target target) es ≡ Some old
    → (set_value (same_target target) es old ≡ es) × (entries_weight (without target es) + variants_weight old ≡ entries_weight es) × (length (without target es) + 1 ≡ length es)
unchanged target [] old found = absurd (cc)
unchanged target (e ∷ es) old found = by_test (same_target target e.0) refl (unchanged target es old)
  where
    some_is : {X : Type 0} {a b : X} → Some a ≡ Some b → a ≡ b
    some_is same = cc

    by_test : (b : Bool) → same_target target e.0 ≡ b
        → (lookup (same_target target) es ≡ Some old
        → (set_value (same_target target) es old ≡ es) × (entries_weight (without target es) + variants_weight old ≡ entries_weight es) × (length (without target es) + 1 ≡ length es))
        → (set_value (same_target target) (e ∷ es) old ≡ e ∷ es) × (entries_weight (without target (e ∷ es)) + variants_weight old ≡ entries_weight (e ∷ es))
        × (length (without target (e ∷ es)) + 1 ≡ length (e ∷ es))
    by_test true is rest =
        let value : e.1 ≡ old = some_is (sym (ap (λ (t : Bool). cond t (Some e.1) (lookup (same_target target) es)) is) ∙ found) in
        let left : without target (e ∷ es) ≡ es = ap (λ (t : Bool). cond t es (e ∷ remove_entry (same_target target) es)) is in (
          ap (λ (t : Bool). cond t ((e.0, old) ∷ es) (e ∷ set_value (same_target target) es old)) is ∙ ap (λ (v : List Stored). (e.0, v) ∷ es) (sym value),
          omega (arith, ap entries_weight left, entries_weight-cons e es, ap variants_weight value),
          omega (arith, ap length left),
        )
    by_test false is rest =
        let later = rest (sym (ap (λ (t : Bool). cond t (Some e.1) (lookup (same_target target) es)) is) ∙ found) in
        let left : without target (e ∷ es) ≡ e ∷ without target es = ap (λ (t : Bool). cond t es (e ∷ remove_entry (same_target target) es)) is in (
          ap (λ (t : Bool). cond t ((e.0, old) ∷ es) (e ∷ set_value (same_target target) es old)) is ∙ ap (λ (l : Entries). e ∷ l) later.0,
          omega (arith, later.1, ap entries_weight left, entries_weight-cons e es, entries_weight-cons e (without target es)),
          omega (arith, later.2, ap length left),
        )

pub known : (target : Target) (es : Entries) (old : List Stored) → lookup (same_target target) es ≡ Some old → Known target es old
known target es old found =
    let kept = unchanged target es old found in
    record {
      variants = ap (λ (o : Option (List Stored)). unwrap_or o []) found;
      is_known = ap is_some found;
      weighs = kept.1;
      one_less = kept.2;
      same = kept.0;
      first = λ new. let c = changed target es old new found in
          ap (λ o. option_map_or (λ (e : Target × List Stored). e ∷ without target (set_value (same_target target) es new)) o (set_value (same_target target) es new)) c.entry
          ∙ ap (λ (l : Entries). (target, new) ∷ l) c.others;
      there = λ new. (changed target es old new found).value;
      set_weighs = λ new. sum_by-set_value variants_weight (same_target target) es old new found;
      gone = λ new. (changed target es old new found).others;
    }

-- ---- a cache as its entries and its bound

pub cache_is : (c : LruCache Target (List Stored)) (es : Entries) (cap : ℕ) → c.entries ≡ es → c.cap ≡ cap → c ≡ lru_cache es cap
cache_is c es cap entries bound = λ i. lru_cache (entries i) (bound i)

pub on_err : {T E : Type 0} {P : Type 0} (r : Result T E) → P → OnErr r P
on_err (Ok x) holds = tt
on_err (Err e) holds = holds

-- ---- putting

-- the key with what stays of its variants, and what stays beside it, as long as something of the key does
pub settled : (bytes : ℕ) (target : Target) (vs : List Stored) (others : Entries) → 0 < length vs → 0 < length (last_variants bytes vs)
    → trimmed bytes ((target, vs) ∷ others) ≡ (target, last_variants bytes vs) ∷ kept_beside (room_beside bytes (variants_weight vs)) others
settled bytes target vs others some left =
    trimmed_is bytes target vs others some
    ∙ ap (λ (l : Entries). l ++ kept_beside (room_beside bytes (variants_weight vs)) others) (keyed_some target (last_variants bytes vs) left)
  where
    keyed_some : (target : Target) (vs : List Stored) → 0 < length vs → keyed target vs ≡ (target, vs) ∷ []
    keyed_some target [] some = absurd (omega (arith, some))
    keyed_some target (v ∷ vs) some = refl

pub added_some : (stored : Stored) (vs : List Stored) → 0 < length (added stored vs)
added_some stored vs =
    omega (arith, length-append (last_ones (most_variants - 1) (filter (λ variant. not (is_selected stored.request.fields variant)) vs)) (stored ∷ []))

pub put_known : (keys bytes : ℕ) (target : Target) (stored : Stored) (es : Entries) (old : List Stored) → Known target es old → length es ≤ keys → weight stored ≤ bytes
    → after_put keys bytes target stored es
    ≡ (target, last_variants bytes (added stored old)) ∷ kept_beside (room_beside bytes (variants_weight (added stored old))) (without target es)
put_known keys bytes target stored es old is few light =
    ap (λ (vs : List Stored). trimmed bytes (take keys ((target, added stored vs) ∷ without target es))) is.variants
    ∙ ap (trimmed bytes) (take_all keys ((target, added stored old) ∷ without target es) (omega (arith, is.one_less, few)))
    ∙ settled bytes target (added stored old) (without target es) (added_some stored old) (last_added_stays bytes _ stored light)

-- ---- a key that isn't there

pub record Unknown (target : Target) (es : Entries) : Type 0 where
  pub value : lookup (same_target target) es ≡ None
  pub entry : lookup_entry (same_target target) es ≡ None
  pub others : without target es ≡ es

pub unknown : (target : Target) (es : Entries) → knows target es ≡ false → Unknown target es
unknown target [] is = record { value = refl; entry = refl; others = refl }
unknown target (e ∷ es) is = by_test (same_target target e.0) refl (unknown target es)
  where
    by_test : (b : Bool) → same_target target e.0 ≡ b → (knows target es ≡ false → Unknown target es) → Unknown target (e ∷ es)
    by_test true here rest = absurd (true_not_false (sym (ap (λ (t : Bool). is_some (cond t (Some e.1) (lookup (same_target target) es))) here) ∙ is))
      where
        true_not_false : true ≡ false → ⊥
        true_not_false e = cc
    by_test false here rest =
        let later = rest (sym (ap (λ (t : Bool). is_some (cond t (Some e.1) (lookup (same_target target) es))) here) ∙ is) in
        record {
          value = ap (λ (t : Bool). cond t (Some e.1) (lookup (same_target target) es)) here ∙ later.value;
          entry = ap (λ (t : Bool). cond t (Some e) (lookup_entry (same_target target) es)) here ∙ later.entry;
          others = ap (λ (t : Bool). cond t es (e ∷ remove_entry (same_target target) es)) here ∙ ap (λ (l : Entries). e ∷ l) later.others;
        }

-- the keys before the last that may stay, and that one
pub taken_weighs : (n : ℕ) (es : Entries) → length es ≤ suc n → entries_weight (take n es) + dropped_weight (slice_get es n) ≡ entries_weight es
taken_weighs zero [] few = omega arith
taken_weighs (suc n) [] few = omega arith
taken_weighs zero (e ∷ []) few = omega (arith, entries_weight-cons e [])
taken_weighs zero (e ∷ f ∷ es) few = absurd (omega (arith, few))
taken_weighs (suc n) (e ∷ es) few =
    omega (arith, entries_weight-cons e (take n es), entries_weight-cons e es, taken_weighs n es (omega (arith, few)))

pub cons_taken : (keys : ℕ) (e : Target × List Stored) (es : Entries) → 0 < keys → take keys (e ∷ es) ≡ e ∷ take (keys - 1) es
cons_taken zero e es some = absurd (omega (arith, some))
cons_taken (suc n) e es some = ap (λ (k : ℕ). e ∷ take k es) (one_less n)
  where
    one_less : (n : ℕ) → n ≡ suc n - 1
    one_less n = omega arith

pub put_unknown : (keys bytes : ℕ) (target : Target) (stored : Stored) (es : Entries) → Unknown target es → 0 < keys → weight stored ≤ bytes
    → after_put keys bytes target stored es
    ≡ (target, last_variants bytes (stored ∷ [])) ∷ kept_beside (room_beside bytes (variants_weight (stored ∷ []))) (take (keys - 1) es)
put_unknown keys bytes target stored es is some light =
    ap (λ (o : Option (List Stored)). trimmed bytes (take keys ((target, added stored (unwrap_or o [])) ∷ without target es))) is.value
    ∙ ap (λ (l : Entries). trimmed bytes (take keys ((target, stored ∷ []) ∷ l))) is.others
    ∙ ap (trimmed bytes) (cons_taken keys (target, stored ∷ []) es some)
    ∙ settled bytes target (stored ∷ []) (take (keys - 1) es) (omega arith) (last_added_stays bytes [] stored light)

-- ---- the bounds of a key

pub found_few : (target : Target) (es : Entries) → AllByRecursion HasFewVariants es → knows target es ≡ true → HasFewVariants (target, variants_of target es)
found_few target [] all is = absurd (cc)
found_few target (e ∷ es) all is = by_test (same_target target e.0) refl (found_few target es all.1)
  where
    by_test : (b : Bool) → same_target target e.0 ≡ b → (knows target es ≡ true → HasFewVariants (target, variants_of target es))
        → HasFewVariants (target, variants_of target (e ∷ es))
    by_test true here rest =
        subst (λ (vs : List Stored). HasFewVariants (target, vs))
        (sym (ap (λ (t : Bool). unwrap_or (cond t (Some e.1) (lookup (same_target target) es)) []) here)) all.0
    by_test false here rest =
        subst (λ (vs : List Stored). HasFewVariants (target, vs))
        (sym (ap (λ (t : Bool). unwrap_or (cond t (Some e.1) (lookup (same_target target) es)) []) here))
        (rest (sym (ap (λ (t : Bool). is_some (cond t (Some e.1) (lookup (same_target target) es))) here) ∙ is))

-- ---- freshening

pub leaves_lighter : (keeps : Bool) (v : Validation) (old left : List Stored) → Leaves keeps v old left → variants_weight left ≤ variants_weight old
leaves_lighter keeps v [] left is = omega (arith, ap variants_weight is)
leaves_lighter keeps v (x ∷ xs) left (inl goes) = omega (arith, sum_by-cons weight x xs, leaves_lighter keeps v xs left goes.1)
leaves_lighter keeps v (x ∷ xs) left (inr stays) =
    omega (arith, sum_by-cons weight x xs, sum_by-cons weight x stays.1, ap variants_weight stays.2, leaves_lighter keeps v xs stays.1 stays.3)

pub leaves_fewer : (keeps : Bool) (v : Validation) (old left : List Stored) → Leaves keeps v old left → length left ≤ length old
leaves_fewer keeps v [] left is = omega (arith, ap length is)
leaves_fewer keeps v (x ∷ xs) left (inl goes) = omega (arith, leaves_fewer keeps v xs left goes.1)
leaves_fewer keeps v (x ∷ xs) left (inr stays) = omega (arith, ap length stays.2, leaves_fewer keeps v xs stays.1 stays.3)

or_false : (a b : Bool) → (a || b) ≡ false → (a ≡ false) × (b ≡ false)
or_false false b none = (refl, none)
or_false true b none = absurd (cc)

-- where none is freshened, all are as they were
pub none_freshened : (v : Validation) (left : List Stored) → list_any (is_validated v) left ≡ false → map (after_validation v) left ≡ left
none_freshened v [] none = refl
none_freshened v (x ∷ xs) none =
    let parts = or_false (is_validated v x) (list_any (is_validated v) xs) none in
    ap (λ (y : Stored). y ∷ map (after_validation v) xs) (ap (λ (b : Bool). cond b (renewed v x) x) parts.0)
    ∙ ap (λ (l : List Stored). x ∷ l) (none_freshened v xs parts.1)

pub one_freshened : (v : Validation) (left : List Stored) → list_any (is_validated v) left ≡ true → 0 < length (map (after_validation v) left)
one_freshened v [] some = absurd (cc)
one_freshened v (x ∷ xs) some = omega arith

-- what becomes of a key that may have lost its variants

not_none : (n : ℕ) → (suc n == 0) ≡ false
not_none n = lt-leb-eqb n
  where
    lt-leb-eqb : (n : ℕ) → (suc n == 0) ≡ false
    lt-leb-eqb n = ne_eqb (suc n) 0 (λ e. omega (arith, e))

pub emptied : (target : Target) (es : Entries) (old new : List Stored) → Known target es old
    → without_empty target (set_value (same_target target) es new) ≡ with_variants target new es
emptied target es old [] is =
    ap (λ (o : Option (List Stored)). cond (option_map_or (λ vs. length vs == 0) o false) (without target (set_value (same_target target) es [])) (set_value (same_target target) es []))
    (is.there []) ∙ is.gone []
emptied target es old (v ∷ vs) is =
    ap (λ (o : Option (List Stored)). cond (option_map_or (λ ws. length ws == 0) o false) (without target (set_value (same_target target) es (v ∷ vs))) (set_value (same_target target) es (v ∷ vs)))
    (is.there (v ∷ vs))
    ∙ ap (λ (b : Bool). cond b (without target (set_value (same_target target) es (v ∷ vs))) (set_value (same_target target) es (v ∷ vs))) (not_none (length vs))

pub first_variants : (target : Target) (vs : List Stored) (others : Entries) → variants_of target ((target, vs) ∷ others) ≡ vs
first_variants target vs others =
    ap (λ (t : Bool). unwrap_or (cond t (Some vs) (lookup (same_target target) others)) []) (same_target_itself target)

pub first_emptied : (target : Target) (vs : List Stored) (others : Entries) → without_empty target ((target, vs) ∷ others) ≡ keyed target vs ++ others
first_emptied target [] others =
    ap (λ (t : Bool). cond (option_map_or (λ ws. length ws == 0) (cond t (Some []) (lookup (same_target target) others)) false)
    (cond t others ((target, []) ∷ remove_entry (same_target target) others)) ((target, []) ∷ others)) (same_target_itself target)
first_emptied target (v ∷ vs) others =
    ap (λ (t : Bool). cond (option_map_or (λ ws. length ws == 0) (cond t (Some (v ∷ vs)) (lookup (same_target target) others)) false)
    (cond t others ((target, v ∷ vs) ∷ remove_entry (same_target target) others)) ((target, v ∷ vs) ∷ others)) (same_target_itself target)
    ∙ ap (λ (b : Bool). cond b others ((target, v ∷ vs) ∷ others)) (not_none (length vs))

pub with_weighs : (target : Target) (es : Entries) (old new : List Stored) → Known target es old
    → entries_weight (with_variants target new es) ≡ entries_weight (without target es) + variants_weight new
with_weighs target es old [] is = omega arith
with_weighs target es old (v ∷ vs) is = omega (arith, is.weighs, is.set_weighs (v ∷ vs))

pub keyed_weighs : (target : Target) (vs : List Stored) (others : Entries) → entries_weight (keyed target vs ++ others) ≡ variants_weight vs + entries_weight others
keyed_weighs target [] others = omega arith
keyed_weighs target (v ∷ vs) others = entries_weight-cons (target, v ∷ vs) others

-- ---- stores

abbrev the_holdings : Entries → ℕ → ℕ → Bool → Holdings
the_holdings entries keys bytes keeps = record { entries = entries; keys = keys; bytes = bytes; keeps_cookies = keeps }

pub holdings_are : (bytes : ℕ) (keeps : Bool) {one other : Entries} {few many : ℕ} → one ≡ other → few ≡ many
    → the_holdings one few bytes keeps ≡ the_holdings other many bytes keeps
holdings_are bytes keeps entries keys = λ i. the_holdings (entries i) (keys i) bytes keeps

pub not_known : (target : Target) (es : Entries) → None ≡ lookup (same_target target) es → knows target es ≡ false
not_known target es is = ap is_some (sym is)
