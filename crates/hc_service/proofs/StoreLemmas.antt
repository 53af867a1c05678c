-- The keys of a store after each call are different still, and what is held of other targets.
use Rattle.std.proofs.Common.{◌≡◌, ℕ, zero, suc, ◌-◌, Bool, true, false, cond, List, [], ◌∷◌, ◌++◌, map, ⊎_elim}
use Rattle.std.specs.Prelude.{take, nat_le}
use Rattle.std.specs.List.{AllByRecursion, IsDistinct, list_any}
use Rattle.std.specs.Map.{keys_of, set_value}
use Rattle.std.proofs.lemmas.Bool.{cases_Bool}
use Rattle.hc_head.specs.declared.head.Target.{Target}
use Rattle.hc_head.specs.Targets.{same_target}
use Rattle.hc_update.specs.declared.stored.Stored.{Stored}
use Rattle.hc_head.proofs.SameTargetLemmas.{same_target_one}
use Rattle.hc_store.specs.Entries.{AllHeld, Entries, variants_of, variants_weight}
use Rattle.hc_store.specs.Changes.{keyed, without, with_variants, after_choose, after_put, first_keys, last_variants, trimmed, added, Validation, after_validation, is_validated, after_freshen}
use Rattle.hc_store.proofs.HeldLemmas.{all_weaken, without_held}

-- the keys but for that of the target are others
pub other_keys : (target : Target) (entries : Entries) → IsDistinct same_target (keys_of entries)
    → AllByRecursion (λ key. same_target target key ≡ false) (keys_of (without target entries))
unfolding IsDistinct
other_keys target [] d = tt
other_keys target (e ∷ entries) d =
    ⊎_elim
    (λ (at : same_target target e.0 ≡ true).
    rw at (all_weaken (λ key. same_target e.0 key ≡ false) (λ key. same_target target key ≡ false) (λ key ne. rw (same_target_one target e.0 at) ne) (keys_of entries) d.0))
    (λ (past : same_target target e.0 ≡ false). rw past (past, other_keys target entries d.1))
    (cases_Bool (same_target target e.0))

all_keys_without : (P : Target → Type 0) (target : Target) (entries : Entries) → AllByRecursion P (keys_of entries) → AllByRecursion P (keys_of (without target entries))
all_keys_without P target [] h = tt
all_keys_without P target (e ∷ entries) h =
    ⊎_elim
    (λ (at : same_target target e.0 ≡ true). rw at h.1)
    (λ (past : same_target target e.0 ≡ false). rw past (h.0, all_keys_without P target entries h.1))
    (cases_Bool (same_target target e.0))

pub distinct_without : (target : Target) (entries : Entries) → IsDistinct same_target (keys_of entries) → IsDistinct same_target (keys_of (without target entries))
unfolding IsDistinct
distinct_without target [] d = tt
distinct_without target (e ∷ entries) d =
    ⊎_elim
    (λ (at : same_target target e.0 ≡ true). rw at d.1)
    (λ (past : same_target target e.0 ≡ false). rw past (all_keys_without (λ key. same_target e.0 key ≡ false) target entries d.0, distinct_without target entries d.1))
    (cases_Bool (same_target target e.0))

-- one key before the others
pub distinct_first : (target : Target) (variants : List Stored) (entries : Entries) → IsDistinct same_target (keys_of entries)
    → IsDistinct same_target (keys_of ((target, variants) ∷ without target entries))
unfolding IsDistinct
distinct_first target variants entries d = (other_keys target entries d, distinct_without target entries d)

pub distinct_choose : (target : Target) (entries : Entries) → IsDistinct same_target (keys_of entries) → IsDistinct same_target (keys_of (after_choose target entries))
distinct_choose target entries d = go (variants_of target entries)
  where
    go : (variants : List Stored) → IsDistinct same_target (keys_of (keyed target variants ++ without target entries))
    go [] = distinct_without target entries d
    go (variant ∷ more) = distinct_first target (variant ∷ more) entries d

all_keys_take : (P : Target → Type 0) (n : ℕ) (entries : Entries) → AllByRecursion P (keys_of entries) → AllByRecursion P (keys_of (take n entries))
all_keys_take P zero entries h = tt
all_keys_take P (suc n) [] h = tt
all_keys_take P (suc n) (e ∷ entries) h = (h.0, all_keys_take P n entries h.1)

distinct_take : (n : ℕ) (entries : Entries) → IsDistinct same_target (keys_of entries) → IsDistinct same_target (keys_of (take n entries))
unfolding IsDistinct
distinct_take zero entries d = tt
distinct_take (suc n) [] d = tt
distinct_take (suc n) (e ∷ entries) d = (all_keys_take (λ key. same_target e.0 key ≡ false) n entries d.0, distinct_take n entries d.1)

all_keys_first : (P : Target → Type 0) (room : ℕ) (entries : Entries) → AllByRecursion P (keys_of entries) → AllByRecursion P (keys_of (first_keys room entries))
all_keys_first P room [] h = tt
all_keys_first P room (e ∷ entries) h =
    ⊎_elim
    (λ (le : nat_le (variants_weight e.1) room ≡ true). rw le (h.0, all_keys_first P (room - variants_weight e.1) entries h.1))
    (λ (gt : nat_le (variants_weight e.1) room ≡ false). rw gt tt)
    (cases_Bool (nat_le (variants_weight e.1) room))

distinct_first_keys : (room : ℕ) (entries : Entries) → IsDistinct same_target (keys_of entries) → IsDistinct same_target (keys_of (first_keys room entries))
unfolding IsDistinct
distinct_first_keys room [] d = tt
distinct_first_keys room (e ∷ entries) d =
    ⊎_elim
    (λ (le : nat_le (variants_weight e.1) room ≡ true).
    rw le (all_keys_first (λ key. same_target e.0 key ≡ false) (room - variants_weight e.1) entries d.0, distinct_first_keys (room - variants_weight e.1) entries d.1))
    (λ (gt : nat_le (variants_weight e.1) room ≡ false). rw gt tt)
    (cases_Bool (nat_le (variants_weight e.1) room))

distinct_keyed : (target : Target) (variants : List Stored) → IsDistinct same_target (keys_of (keyed target variants))
unfolding IsDistinct
distinct_keyed target [] = tt
distinct_keyed target (variant ∷ more) = (tt, tt)

pub distinct_trimmed : (bytes : ℕ) (entries : Entries) → IsDistinct same_target (keys_of entries) → IsDistinct same_target (keys_of (trimmed bytes entries))
unfolding IsDistinct
distinct_trimmed bytes [] d = tt
distinct_trimmed bytes (e ∷ entries) d =
    ⊎_elim
    (λ (le : nat_le (variants_weight e.1) bytes ≡ true).
    rw le (all_keys_first (λ key. same_target e.0 key ≡ false) (bytes - variants_weight e.1) entries d.0, distinct_first_keys (bytes - variants_weight e.1) entries d.1))
    (λ (gt : nat_le (variants_weight e.1) bytes ≡ false). rw gt (distinct_keyed e.0 (last_variants bytes e.1)))
    (cases_Bool (nat_le (variants_weight e.1) bytes))

pub distinct_put : (keys bytes : ℕ) (target : Target) (stored : Stored) (entries : Entries) → IsDistinct same_target (keys_of entries)
    → IsDistinct same_target (keys_of (after_put keys bytes target stored entries))
distinct_put keys bytes target stored entries d =
    distinct_trimmed bytes _ (distinct_take keys _ (distinct_first target (added stored (variants_of target entries)) entries d))

-- with other variants at a key, which may go with them
all_keys_set : (P : Target → Type 0) (target : Target) (variants : List Stored) (entries : Entries) → AllByRecursion P (keys_of entries)
    → AllByRecursion P (keys_of (set_value (same_target target) entries variants))
all_keys_set P target variants [] h = tt
all_keys_set P target variants (e ∷ entries) h =
    ⊎_elim
    (λ (at : same_target target e.0 ≡ true). rw at h)
    (λ (past : same_target target e.0 ≡ false). rw past (h.0, all_keys_set P target variants entries h.1))
    (cases_Bool (same_target target e.0))

distinct_set : (target : Target) (variants : List Stored) (entries : Entries) → IsDistinct same_target (keys_of entries)
    → IsDistinct same_target (keys_of (set_value (same_target target) entries variants))
unfolding IsDistinct
distinct_set target variants [] d = tt
distinct_set target variants (e ∷ entries) d =
    ⊎_elim
    (λ (at : same_target target e.0 ≡ true). rw at d)
    (λ (past : same_target target e.0 ≡ false). rw past (all_keys_set (λ key. same_target e.0 key ≡ false) target variants entries d.0, distinct_set target variants entries d.1))
    (cases_Bool (same_target target e.0))

distinct_with : (target : Target) (variants : List Stored) (entries : Entries) → IsDistinct same_target (keys_of entries)
    → IsDistinct same_target (keys_of (with_variants target variants entries))
distinct_with target [] entries d = distinct_without target entries d
distinct_with target (variant ∷ more) entries d = distinct_set target (variant ∷ more) entries d

pub distinct_freshen : (bytes : ℕ) (v : Validation) (target : Target) (left : List Stored) (entries : Entries) → IsDistinct same_target (keys_of entries)
    → IsDistinct same_target (keys_of (after_freshen bytes v target left entries))
distinct_freshen bytes v target left entries d = go (list_any (is_validated v) left)
  where
    go : (b : Bool) → IsDistinct same_target
        (keys_of (cond b (trimmed bytes ((target, map (after_validation v) left) ∷ without target entries)) (with_variants target left entries)))
    go true = distinct_trimmed bytes ((target, map (after_validation v) left) ∷ without target entries) (distinct_first target (map (after_validation v) left) entries d)
    go false = distinct_with target left entries d

-- what is held of other targets, once that of a target is taken away
pub without_others : (P : Target → Stored → Type 0) (target : Target) (entries : Entries) → IsDistinct same_target (keys_of entries) → AllHeld P entries
    → AllHeld (λ key stored. P key stored × (same_target target key ≡ false)) (without target entries)
without_others P target entries d h = go (without target entries) (other_keys target entries d) (without_held P target entries h)
  where
    go : (left : Entries) → AllByRecursion (λ key. same_target target key ≡ false) (keys_of left) → AllHeld P left
        → AllHeld (λ key stored. P key stored × (same_target target key ≡ false)) left
    go [] d h = tt
    go (e ∷ left) d h = (all_weaken (P e.0) (λ stored. P e.0 stored × (same_target target e.0 ≡ false)) (λ stored p. (p, d.0)) e.1 h.0, go left d.1 h.1)
