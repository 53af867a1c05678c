-- Each call keeps a store within its bounds.
use Rattle.std.proofs.Common.{◌≡◌, ℕ, zero, suc, ◌+◌, ◌-◌, ◌<◌, ◌≤◌, Bool, true, false, cond, ◌||◌, List, [], ◌∷◌, ◌++◌, length, map, take, Option, Some, None, refl, sym, ap, ◌∙◌, subst, arith, length-append, length-drop}
use Rattle.std.specs.Prelude.{nat_le, unwrap_or, not, filter}
use Rattle.std.specs.List.{AllByRecursion, list_any}
use Rattle.std.specs.Map.{lookup, set_value}
use Rattle.std.proofs.lemmas.Bool.{and_parts}
use Rattle.std.proofs.lemmas.List.{length-take}
use Rattle.lru.specs.LruCache.{promoted}
use Rattle.hc_head.specs.declared.head.Target.{Target}
use Rattle.hc_head.specs.Targets.{same_target}
use Rattle.hc_update.specs.declared.stored.Stored.{Stored}
use Rattle.hc_update.specs.Sizes.{fits}
use Rattle.hc_store.specs.Entries.{AllHeld, Entries, Holdings, IsWithin, HasFewVariants, may_hold, variants_of, variants_weight, entries_weight, most_variants}
use Rattle.hc_store.specs.Choosing.{is_selected}
use Rattle.hc_store.specs.Changes.{Validation, Leaves, is_validated, after_validation, may_become, may_stay, renewed, added, keyed, without, with_variants, first_keys, last_variants, last_ones, trimmed, after_choose, after_put, after_freshen, after_invalidate}
use Rattle.hc_store.specs.Calls.{Freshens, holding}
use Rattle.hc_store.specs.Trims.{kept_beside, room_beside}
use Rattle.hc_store.proofs.TrimLemmas.{entries_weight-cons, settled_light, trimmed_is}
use Rattle.hc_store.proofs.HeldLemmas.{all_weaken, choose_held, freshen_held, left_held, put_held, variants_held, without_held}
use Rattle.hc_store.proofs.KeyLemmas.{Known, known, Unknown, unknown, not_known, found_few, leaves_lighter, leaves_fewer, one_freshened, with_weighs, keyed_weighs, cons_taken}

-- ---- what holds of each entry

module _ (P : Target × List Stored → Type 0) where
  all_without : (target : Target) (es : Entries) → AllByRecursion P es → AllByRecursion P (without target es)
  all_without target [] all = all
  all_without target (e ∷ es) all = by_test (same_target target e.0) (all_without target es all.1)
    where
      by_test : (b : Bool) → AllByRecursion P (without target es) → AllByRecursion P (cond b es (e ∷ without target es))
      by_test true rest = all.1
      by_test false rest = (all.0, rest)

  all_take : (n : ℕ) (es : Entries) → AllByRecursion P es → AllByRecursion P (take n es)
  all_take zero es all = tt
  all_take (suc n) [] all = tt
  all_take (suc n) (e ∷ es) all = (all.0, all_take n es all.1)

  all_first : (room : ℕ) (es : Entries) → AllByRecursion P es → AllByRecursion P (first_keys room es)
  all_first room [] all = tt
  all_first room (e ∷ es) all = by_test (nat_le (variants_weight e.1) room) (all_first (room - variants_weight e.1) es all.1)
    where
      by_test : (b : Bool) → AllByRecursion P (first_keys (room - variants_weight e.1) es)
          → AllByRecursion P (cond b (e ∷ first_keys (room - variants_weight e.1) es) [])
      by_test true rest = (all.0, rest)
      by_test false rest = tt

  all_kept : (room : Option ℕ) (es : Entries) → AllByRecursion P es → AllByRecursion P (kept_beside room es)
  all_kept None es all = tt
  all_kept (Some room) es all = all_first room es all

  all_behind : (e : Target × List Stored) (es : Entries) → P e → AllByRecursion P es → AllByRecursion P (e ∷ es)
  all_behind e es first rest = (first, rest)

all_set : (target : Target) (es : Entries) (new : List Stored) → 0 < length new → length new ≤ most_variants → AllByRecursion HasFewVariants es
    → AllByRecursion HasFewVariants (set_value (same_target target) es new)
all_set target [] new some few all = tt
all_set target (e ∷ es) new some few all = by_test (same_target target e.0) (all_set target es new some few all.1)
  where
    by_test : (b : Bool) → AllByRecursion HasFewVariants (set_value (same_target target) es new)
        → AllByRecursion HasFewVariants (cond b ((e.0, new) ∷ es) (e ∷ set_value (same_target target) es new))
    by_test true rest = ((some, few), all.1)
    by_test false rest = (all.0, rest)

-- ---- how many keys there are

fewer_without : (target : Target) (es : Entries) → length (without target es) ≤ length es
fewer_without target [] = omega arith
fewer_without target (e ∷ es) = by_test (same_target target e.0) (fewer_without target es)
  where
    by_test : (b : Bool) → length (without target es) ≤ length es → length (cond b es (e ∷ without target es)) ≤ length (e ∷ es)
    by_test true rest = omega arith
    by_test false rest = omega (arith, rest)

lighter_without : (target : Target) (es : Entries) → entries_weight (without target es) ≤ entries_weight es
lighter_without target [] = omega arith
lighter_without target (e ∷ es) = by_test (same_target target e.0) (lighter_without target es)
  where
    by_test : (b : Bool) → entries_weight (without target es) ≤ entries_weight es → entries_weight (cond b es (e ∷ without target es)) ≤ entries_weight (e ∷ es)
    by_test true rest = omega (arith, entries_weight-cons e es)
    by_test false rest = omega (arith, rest, entries_weight-cons e es, entries_weight-cons e (without target es))

same_many : (target : Target) (es : Entries) (new : List Stored) → length (set_value (same_target target) es new) ≡ length es
same_many target [] new = refl
same_many target (e ∷ es) new = by_test (same_target target e.0) (same_many target es new)
  where
    by_test : (b : Bool) → length (set_value (same_target target) es new) ≡ length es
        → length (cond b ((e.0, new) ∷ es) (e ∷ set_value (same_target target) es new)) ≡ length (e ∷ es)
    by_test true rest = refl
    by_test false rest = ap suc rest

fewer_first : (room : ℕ) (es : Entries) → length (first_keys room es) ≤ length es
fewer_first room [] = omega arith
fewer_first room (e ∷ es) = by_test (nat_le (variants_weight e.1) room) (fewer_first (room - variants_weight e.1) es)
  where
    by_test : (b : Bool) → length (first_keys (room - variants_weight e.1) es) ≤ length es
        → length (cond b (e ∷ first_keys (room - variants_weight e.1) es) []) ≤ length (e ∷ es)
    by_test true rest = omega (arith, rest)
    by_test false rest = omega arith

fewer_kept : (room : Option ℕ) (es : Entries) → length (kept_beside room es) ≤ length es
fewer_kept None es = omega arith
fewer_kept (Some room) es = fewer_first room es

fewer_last : (room : ℕ) (vs : List Stored) → length (last_variants room vs) ≤ length vs
fewer_last room [] = omega arith
fewer_last room (v ∷ vs) = by_test (nat_le (variants_weight (v ∷ vs)) room) (fewer_last room vs)
  where
    by_test : (b : Bool) → length (last_variants room vs) ≤ length vs → length (cond b (v ∷ vs) (last_variants room vs)) ≤ length (v ∷ vs)
    by_test true rest = omega arith
    by_test false rest = omega (arith, rest)

-- ---- entries within bounds

record AreFew (keys bytes : ℕ) (es : Entries) : Type 0 where
  few_keys : length es ≤ keys
  few_variants : AllByRecursion HasFewVariants es
  light : entries_weight es ≤ bytes

keyed_few : (target : Target) (vs : List Stored) (others : Entries) → length vs ≤ most_variants → AllByRecursion HasFewVariants others
    → AllByRecursion HasFewVariants (keyed target vs ++ others) × (length (keyed target vs ++ others) ≤ length others + 1)
keyed_few target [] others few all = (all, omega arith)
keyed_few target (v ∷ vs) others few all = (((omega arith, few), all), omega arith)

trimmed_few : (keys bytes : ℕ) (target : Target) (vs : List Stored) (others : Entries) → 0 < length vs → length vs ≤ most_variants
    → AllByRecursion HasFewVariants others → length others + 1 ≤ keys → AreFew keys bytes (trimmed bytes ((target, vs) ∷ others))
trimmed_few keys bytes target vs others some few all many =
    let lv = last_variants bytes vs in
    let kept = kept_beside (room_beside bytes (variants_weight vs)) others in
    let parts = keyed_few target lv kept (omega (arith, few, fewer_last bytes vs)) (all_kept HasFewVariants (room_beside bytes (variants_weight vs)) others all) in
    subst (AreFew keys bytes) (sym (trimmed_is bytes target vs others some)) (record {
      few_keys = omega (arith, parts.1, many, fewer_kept (room_beside bytes (variants_weight vs)) others);
      few_variants = parts.0;
      light = omega (arith, keyed_weighs target lv kept, settled_light bytes vs others);
    })

-- what a store holds of each response
abbrev IsKept : Bool → Target → Stored → Type 0
IsKept keeps target stored = may_hold keeps stored ≡ true

few_within : (store : Holdings) (es : Entries) → IsWithin store → AreFew store.keys store.bytes es → AllHeld (IsKept store.keeps_cookies) es → IsWithin (holding es store)
few_within store es within few kept = record {
  some_keys = within.some_keys;
  no_more_keys = within.no_more_keys;
  few_keys = few.few_keys;
  few_variants = few.few_variants;
  light = few.light;
  kept = kept;
}

-- ---- each call

pub empty_within : (keys bytes : ℕ) (keeps : Bool) → 0 < keys → keys ≤ 65536 → IsWithin (record { entries = []; keys = keys; bytes = bytes; keeps_cookies = keeps })
empty_within keys bytes keeps some few = record {
  some_keys = some;
  no_more_keys = few;
  few_keys = omega arith;
  few_variants = tt;
  light = omega arith;
  kept = tt;
}

few_added : (stored : Stored) (vs : List Stored) → (0 < length (added stored vs)) × (length (added stored vs) ≤ most_variants)
few_added stored vs =
    let left = filter (λ variant. not (is_selected stored.request.fields variant)) vs in (
      omega (arith, length-append (last_ones 15 left) (stored ∷ [])),
      omega (arith, length-append (last_ones 15 left) (stored ∷ []), length-drop (length left - 15) left),
    )

pub put_within : (store : Holdings) (target : Target) (stored : Stored) → may_hold store.keeps_cookies stored ≡ true → IsWithin store
    → IsWithin (holding (after_put store.keys store.bytes target stored store.entries) store)
put_within store target stored may within =
    let es = store.entries in
    let vs = added stored (variants_of target es) in
    let few = few_added stored (variants_of target es) in
    let others = take (store.keys - 1) (without target es) in
    few_within store _ within
    (subst (λ (l : Entries). AreFew store.keys store.bytes (trimmed store.bytes l))
    (sym (cons_taken store.keys (target, vs) (without target es) within.some_keys))
    (trimmed_few store.keys store.bytes target vs others few.0 few.1
    (all_take HasFewVariants (store.keys - 1) (without target es) (all_without HasFewVariants target es within.few_variants))
    (omega (arith, within.some_keys, length-take (store.keys - 1) (without target es)))))
    (put_held (IsKept store.keeps_cookies) store.keys store.bytes target stored es within.kept may)

pub invalidate_within : (store : Holdings) (target : Target) → IsWithin store → IsWithin (holding (after_invalidate target store.entries) store)
invalidate_within store target within = few_within store _ within (record {
  few_keys = omega (arith, within.few_keys, fewer_without target store.entries);
  few_variants = all_without HasFewVariants target store.entries within.few_variants;
  light = omega (arith, within.light, lighter_without target store.entries);
}) (without_held (IsKept store.keeps_cookies) target store.entries within.kept)

-- a target by whether it is known
by_lookup : {Q : Type 0} (target : Target) (es : Entries) (o : Option (List Stored)) → lookup (same_target target) es ≡ o
    → ((old : List Stored) → Known target es old → Q) → (Unknown target es → Q) → Q
by_lookup target es None is some none = none (unknown target es (not_known target es (sym is)))
by_lookup target es (Some old) is some none = some old (known target es old is)

no_variants : (target : Target) (es : Entries) → Unknown target es → variants_of target es ≡ []
no_variants target es is = ap (λ (o : Option (List Stored)). unwrap_or o []) is.value

-- choosing changes no weight either
pub choose_weighs : (target : Target) (es : Entries) → entries_weight (after_choose target es) ≡ entries_weight es
choose_weighs target es = by_lookup target es (lookup (same_target target) es) refl
    (λ old is. omega (arith, keyed_weighs target (variants_of target es) (without target es), is.weighs, ap variants_weight is.variants))
    (λ is. omega (arith, keyed_weighs target (variants_of target es) (without target es), ap entries_weight is.others, ap variants_weight (no_variants target es is)))

pub choose_within : (store : Holdings) (target : Target) → IsWithin store → IsWithin (holding (after_choose target store.entries) store)
choose_within store target within =
    let es = store.entries in
    by_lookup target es (lookup (same_target target) es) refl
    (λ old is.
    let few = found_few target es within.few_variants is.is_known in
    let parts = keyed_few target (variants_of target es) (without target es) few.1 (all_without HasFewVariants target es within.few_variants) in
    few_within store _ within (record {
      few_keys = omega (arith, parts.1, is.one_less, within.few_keys);
      few_variants = parts.0;
      light = omega (arith, choose_weighs target es, within.light);
    }) (choose_held (IsKept store.keeps_cookies) target es within.kept))
    (λ is.
    let same : after_choose target es ≡ es = ap (λ (vs : List Stored). keyed target vs ++ without target es) (no_variants target es is) ∙ is.others in
    few_within store _ within (subst (AreFew store.keys store.bytes) (sym same) (record {
      few_keys = within.few_keys;
      few_variants = within.few_variants;
      light = within.light;
    })) (choose_held (IsKept store.keeps_cookies) target es within.kept))

-- choosing a key that is there
pub chosen_first : (target : Target) (es : Entries) (old : List Stored) → Known target es old → AllByRecursion HasFewVariants es
    → (target, old) ∷ without target es ≡ after_choose target es
chosen_first target es old is all =
    sym (ap (λ (vs : List Stored). keyed target vs ++ without target es) is.variants ∙ some_keyed old (subst (λ (vs : List Stored). 0 < length vs) is.variants (found_few target es all is.is_known).0))
  where
    some_keyed : (vs : List Stored) → 0 < length vs → keyed target vs ++ without target es ≡ (target, vs) ∷ without target es
    some_keyed [] some = absurd (omega (arith, some))
    some_keyed (v ∷ vs) some = refl

pub chosen_is : (target : Target) (es : Entries) (old : List Stored) → Known target es old → AllByRecursion HasFewVariants es
    → promoted (same_target target) es ≡ after_choose target es
chosen_is target es old is all = sym (ap (promoted (same_target target)) is.same) ∙ is.first old ∙ chosen_first target es old is all

-- choosing a key that isn't there
pub unknown_stays : (store : Holdings) (target : Target) → Unknown target store.entries → store ≡ holding (after_choose target store.entries) store
unknown_stays store target is =
    λ i. record {
      entries = sym (ap (λ (vs : List Stored). keyed target vs ++ without target store.entries) (no_variants target store.entries is) ∙ is.others) i;
      keys = store.keys;
      bytes = store.bytes;
      keeps_cookies = store.keeps_cookies;
    }

as_many : (v : Validation) (left : List Stored) → length (map (after_validation v) left) ≡ length left
as_many v [] = refl
as_many v (x ∷ xs) = ap suc (as_many v xs)

set_few : (keys bytes : ℕ) (target : Target) (es : Entries) (old left : List Stored) → Known target es old → AreFew keys bytes es
    → length left ≤ most_variants → variants_weight left ≤ variants_weight old → AreFew keys bytes (with_variants target left es)
set_few keys bytes target es old [] is are few lighter = record {
  few_keys = omega (arith, are.few_keys, fewer_without target es);
  few_variants = all_without HasFewVariants target es are.few_variants;
  light = omega (arith, are.light, lighter_without target es);
}
set_few keys bytes target es old (v ∷ vs) is are few lighter = record {
  few_keys = omega (arith, are.few_keys, same_many target es (v ∷ vs));
  few_variants = all_set target es (v ∷ vs) (omega arith) few are.few_variants;
  light = omega (arith, are.light, with_weighs target es old (v ∷ vs) is, is.weighs, lighter);
}

-- what stays may be held, as it becomes
stays_kept : (keeps : Bool) (v : Validation) (variant : Stored) → (may_hold keeps variant ≡ true) × (may_stay keeps v variant ≡ true) → may_hold keeps (after_validation v variant) ≡ true
stays_kept keeps v variant is = go (is_validated v variant) is.1
  where
    go : (b : Bool) → (not b || may_become keeps (renewed v variant)) ≡ true → may_hold keeps (cond b (renewed v variant) variant) ≡ true
    go true stays = (and_parts (fits (renewed v variant)) (may_hold keeps (renewed v variant)) stays).1
    go false stays = is.0

freshened_kept : (v : Validation) (target : Target) (old : Holdings) {new : Holdings} → (freshens : Freshens v target old new) → IsWithin old
    → AllHeld (IsKept old.keeps_cookies) (after_freshen old.bytes v target freshens.left old.entries)
freshened_kept v target old freshens within =
    let keeps = old.keeps_cookies in let es = old.entries in
    freshen_held (IsKept keeps) old.bytes v target freshens.left es (without_held (IsKept keeps) target es within.kept)
    (all_weaken (λ variant. (may_hold keeps variant ≡ true) × (may_stay keeps v variant ≡ true)) (λ variant. may_hold keeps (after_validation v variant) ≡ true)
    (stays_kept keeps v) freshens.left
    (left_held (λ variant. may_hold keeps variant ≡ true) keeps v (variants_of target es) freshens.left
    (variants_held (IsKept keeps) target es within.kept) freshens.leaves))

pub freshen_within : (validation : Validation) (target : Target) (old new : Holdings) → Freshens validation target old new → IsWithin old → IsWithin new
freshen_within v target old new freshens within =
    let es = old.entries in let left = freshens.left in
    subst IsWithin (sym freshens.becomes)
    (few_within old _ within (by_lookup target es (lookup (same_target target) es) refl
    (λ vs is.
    let few = found_few target es within.few_variants is.is_known in
    let fewer = leaves_fewer old.keeps_cookies v (variants_of target es) left freshens.leaves in
    by_any (list_any (is_validated v) left) refl
    (λ some. trimmed_few old.keys old.bytes target (map (after_validation v) left) (without target es) (one_freshened v left some)
    (omega (arith, few.1, fewer, as_many v left))
    (all_without HasFewVariants target es within.few_variants) (omega (arith, is.one_less, within.few_keys)))
    (set_few old.keys old.bytes target es vs left is (record { few_keys = within.few_keys; few_variants = within.few_variants; light = within.light })
    (omega (arith, few.1, fewer))
    (omega (arith, leaves_lighter old.keeps_cookies v (variants_of target es) left freshens.leaves, ap variants_weight is.variants))))
    (λ is.
    let none : left ≡ [] = nothing_left old.keeps_cookies v (variants_of target es) left (no_variants target es is) freshens.leaves in
    subst (λ (l : List Stored). AreFew old.keys old.bytes (after_freshen old.bytes v target l es)) (sym none)
    (record {
      few_keys = omega (arith, within.few_keys, fewer_without target es);
      few_variants = all_without HasFewVariants target es within.few_variants;
      light = omega (arith, within.light, lighter_without target es);
    })))
    (freshened_kept v target old freshens within))
  where
    by_any : (b : Bool) → list_any (is_validated v) freshens.left ≡ b
        → (list_any (is_validated v) freshens.left ≡ true → AreFew old.keys old.bytes (trimmed old.bytes ((target, map (after_validation v) freshens.left) ∷ without target old.entries)))
        → AreFew old.keys old.bytes (with_variants target freshens.left old.entries)
        → AreFew old.keys old.bytes (after_freshen old.bytes v target freshens.left old.entries)
    by_any true is some none =
        subst (λ (t : Bool). AreFew old.keys old.bytes (cond t (trimmed old.bytes ((target, map (after_validation v) freshens.left) ∷ without target old.entries)) (with_variants target freshens.left old.entries)))
        (sym is) (some is)
    by_any false is some none =
        subst (λ (t : Bool). AreFew old.keys old.bytes (cond t (trimmed old.bytes ((target, map (after_validation v) freshens.left) ∷ without target old.entries)) (with_variants target freshens.left old.entries)))
        (sym is) none

    nothing_left : (keeps : Bool) (v : Validation) (xs left : List Stored) → xs ≡ [] → Leaves keeps v xs left → left ≡ []
    nothing_left keeps v [] left none leaves = leaves
    nothing_left keeps v (x ∷ xs) left none leaves = absurd (cc)
