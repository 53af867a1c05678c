-- What a store holds after each call was held before, or was put.
use Rattle.std.proofs.Common.{◌≡◌, ℕ, zero, suc, ◌-◌, Bool, true, false, cond, List, [], ◌∷◌, ◌++◌, map, Some, refl, sym, ap, subst, ⊎_elim}
use Rattle.std.specs.Prelude.{filter, take, drop, not, nat_le}
use Rattle.std.specs.List.{AllByRecursion, best_of, list_any}
use Rattle.std.specs.Map.{set_value}
use Rattle.std.proofs.lemmas.Bool.{cases_Bool, or_parts}
use Rattle.hc_fields.specs.declared.fields.Field.{Field}
use Rattle.hc_head.specs.declared.head.Target.{Target}
use Rattle.hc_head.specs.Targets.{same_target}
use Rattle.hc_update.specs.declared.stored.Stored.{Stored}
use Rattle.hc_head.proofs.SameTargetLemmas.{same_target_one}
use Rattle.hc_store.specs.Entries.{AllHeld, Entries, variants_of, variants_weight}
use Rattle.hc_store.specs.Choosing.{is_selected, is_selected_validated, goes_before, first_choice, chosen, chosen_validated}
use Rattle.hc_store.specs.Changes.{keyed, without, with_variants, after_choose, after_put, first_keys, last_variants, trimmed, added, Validation, Leaves, after_validation, is_validated, renewed, may_stay, may_go, after_freshen}

-- ---- lists of which all is so

pub all_weaken : {X : Type 0} (P Q : X → Type 0) → ((x : X) → P x → Q x) → (xs : List X) → AllByRecursion P xs → AllByRecursion Q xs
all_weaken P Q f [] h = tt
all_weaken P Q f (x ∷ xs) h = (f x h.0, all_weaken P Q f xs h.1)

pub all_filter : {X : Type 0} (P : X → Type 0) (test : X → Bool) (xs : List X) → AllByRecursion P xs → AllByRecursion P (filter test xs)
all_filter P test [] h = tt
all_filter P test (x ∷ xs) h =
    ⊎_elim (λ (e : test x ≡ true). rw e (h.0, all_filter P test xs h.1)) (λ (e : test x ≡ false). rw e (all_filter P test xs h.1)) (cases_Bool (test x))

pub all_passing : {X : Type 0} (test : X → Bool) (xs : List X) → AllByRecursion (λ x. test x ≡ true) (filter test xs)
all_passing test [] = tt
all_passing test (x ∷ xs) =
    ⊎_elim (λ (e : test x ≡ true). rw e (e, all_passing test xs)) (λ (e : test x ≡ false). rw e (all_passing test xs)) (cases_Bool (test x))

pub all_append : {X : Type 0} (P : X → Type 0) (xs ys : List X) → AllByRecursion P xs → AllByRecursion P ys → AllByRecursion P (xs ++ ys)
all_append P [] ys h k = k
all_append P (x ∷ xs) ys h k = (h.0, all_append P xs ys h.1 k)

pub all_drop : {X : Type 0} (P : X → Type 0) (n : ℕ) (xs : List X) → AllByRecursion P xs → AllByRecursion P (drop n xs)
all_drop P zero xs h = h
all_drop P (suc n) [] h = tt
all_drop P (suc n) (x ∷ xs) h = all_drop P n xs h.1

pub all_take : {X : Type 0} (P : X → Type 0) (n : ℕ) (xs : List X) → AllByRecursion P xs → AllByRecursion P (take n xs)
all_take P zero xs h = tt
all_take P (suc n) [] h = tt
all_take P (suc n) (x ∷ xs) h = (h.0, all_take P n xs h.1)

-- the best of several is one of them
pub best_held : {X : Type 0} (P : X → Type 0) (beats : X → X → Bool) (x : X) (xs : List X) → P x → AllByRecursion P xs → P (best_of beats x xs)
best_held P beats x [] p h = p
best_held P beats x (y ∷ xs) p h = best_held P beats (cond (beats y x) y x) xs (next (beats y x)) h.1
  where
    next : (b : Bool) → P (cond b y x)
    next true = h.0
    next false = p

-- ---- what is held

module _ (P : Target → Stored → Type 0) where
  pub variants_held : (target : Target) (entries : Entries) → AllHeld P entries → AllByRecursion (P target) (variants_of target entries)
  variants_held target [] h = tt
  variants_held target (e ∷ entries) h =
      ⊎_elim
      (λ (at : same_target target e.0 ≡ true). rw at (subst (λ (key : Target). AllByRecursion (P key) e.1) (sym (same_target_one target e.0 at)) h.0))
      (λ (past : same_target target e.0 ≡ false). rw past (variants_held target entries h.1))
      (cases_Bool (same_target target e.0))

  pub without_held : (target : Target) (entries : Entries) → AllHeld P entries → AllHeld P (without target entries)
  without_held target [] h = tt
  without_held target (e ∷ entries) h =
      ⊎_elim
      (λ (at : same_target target e.0 ≡ true). rw at h.1)
      (λ (past : same_target target e.0 ≡ false). rw past (h.0, without_held target entries h.1))
      (cases_Bool (same_target target e.0))

  keyed_held : (target : Target) (variants : List Stored) → AllByRecursion (P target) variants → AllHeld P (keyed target variants)
  keyed_held target [] h = tt
  keyed_held target (variant ∷ more) h = (h, tt)

  pub choose_held : (target : Target) (entries : Entries) → AllHeld P entries → AllHeld P (after_choose target entries)
  choose_held target entries h =
      all_append _ (keyed target (variants_of target entries)) (without target entries)
      (keyed_held target (variants_of target entries) (variants_held target entries h)) (without_held target entries h)

  first_keys_held : (room : ℕ) (entries : Entries) → AllHeld P entries → AllHeld P (first_keys room entries)
  first_keys_held room [] h = tt
  first_keys_held room (e ∷ entries) h =
      ⊎_elim
      (λ (le : nat_le (variants_weight e.1) room ≡ true). rw le (h.0, first_keys_held (room - variants_weight e.1) entries h.1))
      (λ (gt : nat_le (variants_weight e.1) room ≡ false). rw gt tt)
      (cases_Bool (nat_le (variants_weight e.1) room))

  last_variants_held : (Q : Stored → Type 0) (room : ℕ) (variants : List Stored) → AllByRecursion Q variants → AllByRecursion Q (last_variants room variants)
  last_variants_held Q room [] h = tt
  last_variants_held Q room (variant ∷ more) h =
      ⊎_elim
      (λ (le : nat_le (variants_weight (variant ∷ more)) room ≡ true). rw le h)
      (λ (gt : nat_le (variants_weight (variant ∷ more)) room ≡ false). rw gt (last_variants_held Q room more h.1))
      (cases_Bool (nat_le (variants_weight (variant ∷ more)) room))

  pub trimmed_held : (bytes : ℕ) (entries : Entries) → AllHeld P entries → AllHeld P (trimmed bytes entries)
  trimmed_held bytes [] h = tt
  trimmed_held bytes (e ∷ entries) h =
      ⊎_elim
      (λ (le : nat_le (variants_weight e.1) bytes ≡ true). rw le (h.0, first_keys_held (bytes - variants_weight e.1) entries h.1))
      (λ (gt : nat_le (variants_weight e.1) bytes ≡ false). rw gt (keyed_held e.0 (last_variants bytes e.1) (last_variants_held (P e.0) bytes e.1 h.0)))
      (cases_Bool (nat_le (variants_weight e.1) bytes))

  added_held : (target : Target) (stored : Stored) (variants : List Stored) → AllByRecursion (P target) variants → P target stored → AllByRecursion (P target) (added stored variants)
  added_held target stored variants h p =
      all_append (P target) _ (stored ∷ [])
      (all_drop (P target) _ _ (all_filter (P target) (λ variant. not (is_selected stored.request.fields variant)) variants h)) (p, tt)

  pub put_held : (keys bytes : ℕ) (target : Target) (stored : Stored) (entries : Entries) → AllHeld P entries → P target stored
      → AllHeld P (after_put keys bytes target stored entries)
  put_held keys bytes target stored entries h p =
      trimmed_held bytes _
      (all_take _ keys ((target, added stored (variants_of target entries)) ∷ without target entries)
      (added_held target stored (variants_of target entries) (variants_held target entries h) p, without_held target entries h))

  -- the first choice of those that pass a test is held of the target, and passes it
  first_held : (test : Stored → Bool) (target : Target) (entries : Entries) (stored : Stored) → AllHeld P entries
      → Some stored ≡ first_choice (filter test (variants_of target entries)) → P target stored × (test stored ≡ true)
  first_held test target entries stored h is =
      go (filter test (variants_of target entries)) (all_filter (P target) test (variants_of target entries) (variants_held target entries h))
      (all_passing test (variants_of target entries)) is
    where
      go : (variants : List Stored) → AllByRecursion (P target) variants → AllByRecursion (λ v. test v ≡ true) variants → Some stored ≡ first_choice variants
          → P target stored × (test stored ≡ true)
      go [] a b e = absurd (cc)
      go (v ∷ more) a b e =
          let same : stored ≡ best_of goes_before v more = cc in (
            subst (P target) (sym same) (best_held (P target) goes_before v more a.0 a.1),
            subst (λ (x : Stored). test x ≡ true) (sym same) (best_held (λ x. test x ≡ true) goes_before v more b.0 b.1),
          )

  -- what is chosen selects the request
  pub chosen_held : (target : Target) (asked : List Field) (entries : Entries) (stored : Stored) → AllHeld P entries
      → Some stored ≡ chosen asked (variants_of target entries) → P target stored × (is_selected asked stored ≡ true)
  chosen_held target asked entries stored h is = first_held (is_selected asked) target entries stored h is

  -- so does what is chosen of those that a record validated, which it did
  pub validated_held : (target : Target) (asked : List Field) (position : ℕ) (entries : Entries) (stored : Stored) → AllHeld P entries
      → Some stored ≡ chosen_validated asked position (variants_of target entries) → P target stored × (is_selected_validated asked position stored ≡ true)
  validated_held target asked position entries stored h is = first_held (is_selected_validated asked position) target entries stored h is

-- those that stay were there, and may be what they become
pub left_held : (P : Stored → Type 0) (keeps_cookies : Bool) (v : Validation) (variants left : List Stored) → AllByRecursion P variants → Leaves keeps_cookies v variants left
    → AllByRecursion (λ variant. P variant × (may_stay keeps_cookies v variant ≡ true)) left
left_held P keeps_cookies v [] left h leaves = subst (AllByRecursion (λ variant. P variant × (may_stay keeps_cookies v variant ≡ true))) (sym leaves) tt
left_held P keeps_cookies v (variant ∷ more) left h leaves =
    ⊎_elim
    (λ (goes : (may_go v variant ≡ true) × Leaves keeps_cookies v more left). left_held P keeps_cookies v more left h.1 goes.1)
    (λ (stays : (may_stay keeps_cookies v variant ≡ true) × (rest : List Stored) × (left ≡ variant ∷ rest) × Leaves keeps_cookies v more rest).
    subst (AllByRecursion (λ variant. P variant × (may_stay keeps_cookies v variant ≡ true))) (sym stays.2) ((h.0, stays.0), left_held P keeps_cookies v more stays.1 h.1 stays.3))
    leaves

-- all of what a function makes of each
pub all_mapped : {X : Type 0} (P Q : X → Type 0) (f : X → X) → ((x : X) → P x → Q (f x)) → (xs : List X) → AllByRecursion P xs → AllByRecursion Q (map f xs)
all_mapped P Q f to [] h = tt
all_mapped P Q f to (x ∷ xs) h = (to x h.0, all_mapped P Q f to xs h.1)

-- where none passes, none of them does
pub none_of : {X : Type 0} (test : X → Bool) (xs : List X) → list_any test xs ≡ false → AllByRecursion (λ x. test x ≡ false) xs
none_of test [] is = tt
none_of test (x ∷ xs) is = let parts = or_parts (test x) (list_any test xs) is in (parts.0, none_of test xs parts.1)

pub all_also : {X : Type 0} (P Q : X → Type 0) (xs : List X) → AllByRecursion P xs → AllByRecursion Q xs → AllByRecursion (λ x. P x × Q x) xs
all_also P Q [] h k = tt
all_also P Q (x ∷ xs) h k = ((h.0, k.0), all_also P Q xs h.1 k.1)

set_left : (P : Target → Stored → Type 0) (target : Target) (variants : List Stored) (entries : Entries) → AllHeld P (without target entries) → AllByRecursion (P target) variants
    → AllHeld P (set_value (same_target target) entries variants)
set_left P target variants [] h p = tt
set_left P target variants (e ∷ entries) h p =
    go (same_target target e.0) (λ at. subst (λ (key : Target). AllByRecursion (P key) variants) (same_target_one target e.0 at) p) (λ rest. set_left P target variants entries rest p) refl h
  where
    go : (b : Bool) → (same_target target e.0 ≡ true → AllByRecursion (P e.0) variants)
        → (AllHeld P (without target entries) → AllHeld P (set_value (same_target target) entries variants)) → same_target target e.0 ≡ b
        → AllHeld P (cond b entries (e ∷ without target entries))
        → AllHeld P (cond b ((e.0, variants) ∷ entries) (e ∷ set_value (same_target target) entries variants))
    go true now later at rest = (now at, rest)
    go false now later past rest = (rest.0, later rest.1)

-- what is held once a 304 has freshened what it is about: what others were, and what becomes of those that stay
pub freshen_held : (Q : Target → Stored → Type 0) (bytes : ℕ) (v : Validation) (target : Target) (left : List Stored) (entries : Entries)
    → AllHeld Q (without target entries) → AllByRecursion (λ variant. Q target (after_validation v variant)) left → AllHeld Q (after_freshen bytes v target left entries)
freshen_held Q bytes v target left entries others h = go (list_any (is_validated v) left) refl
  where
    unchanged : (variant : Stored) → Q target (after_validation v variant) × (is_validated v variant ≡ false) → Q target variant
    unchanged variant q = subst (Q target) (ap (λ (b : Bool). cond b (renewed v variant) variant) q.1) q.0

    with_held : (variants : List Stored) → AllByRecursion (Q target) variants → AllHeld Q (with_variants target variants entries)
    with_held [] q = others
    with_held (variant ∷ more) q = set_left Q target (variant ∷ more) entries others q

    go : (b : Bool) → list_any (is_validated v) left ≡ b
        → AllHeld Q (cond b (trimmed bytes ((target, map (after_validation v) left) ∷ without target entries)) (with_variants target left entries))
    go true is =
        let held : AllHeld Q ((target, map (after_validation v) left) ∷ without target entries) =
        (all_mapped (λ variant. Q target (after_validation v variant)) (Q target) (after_validation v) (λ x q. q) left h, others) in
        trimmed_held Q bytes ((target, map (after_validation v) left) ∷ without target entries) held
    go false is =
        with_held left
        (all_weaken (λ variant. Q target (after_validation v variant) × (is_validated v variant ≡ false)) (Q target) unchanged left
        (all_also (λ variant. Q target (after_validation v variant)) (λ variant. is_validated v variant ≡ false) left h (none_of (is_validated v) left is)))

pub held_weaken : (P Q : Target → Stored → Type 0) → ((target : Target) (stored : Stored) → P target stored → Q target stored) → (entries : Entries) → AllHeld P entries → AllHeld Q entries
held_weaken P Q f [] h = tt
held_weaken P Q f (e ∷ entries) h = (all_weaken (P e.0) (Q e.0) (f e.0) e.1 h.0, held_weaken P Q f entries h.1)
