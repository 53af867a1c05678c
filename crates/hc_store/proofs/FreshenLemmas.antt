-- What becomes of variants that a 304 came for, from the last on.
use Rattle.std.proofs.Common.{◌≡◌, ℕ, zero, suc, ◌+◌, ◌<◌, Bool, true, false, cond, not, ◌||◌, List, [], ◌∷◌, ◌++◌, length, take, drop, map, get_or, set, refl, sym, ap, ◌∙◌, subst, inl, inr, arith, append_assoc, length-append}
use Rattle.std.specs.List.{list_any}
use Rattle.hc_update.specs.declared.stored.Stored.{Stored}
use Rattle.hc_store.specs.declared.freshening.Fate.TheVariants as fate
use Rattle.hc_store.specs.Changes.{Validation, Leaves, after_validation, is_validated, may_become, renewed, may_stay}
use Rattle.hc_store.specs.Fates.{HasFate}
use Rattle.std.proofs.lemmas.List.{take_at, drop_at, length-take-le}

-- ---- a place of a list whose rest was changed

record Place {X : Type 0} (xs : List X) (i : ℕ) (behind : List X) : Type 0 where
  at : X
  dropped : drop i xs ≡ at ∷ drop (suc i) xs
  read : (d : X) → get_or (take (suc i) xs ++ behind) i d ≡ at
  written : (w : X) → set (take (suc i) xs ++ behind) i w ≡ take i xs ++ w ∷ behind

place : {X : Type 0} (xs : List X) (i : ℕ) (behind : List X) → i < length xs → Place xs i behind
place [] i behind small = absurd (omega (arith, small))
place (x ∷ xs) zero behind small = record { at = x; dropped = refl; read = λ d. refl; written = λ w. refl }
place {X} (x ∷ xs) (suc i) behind small =
    let rest = place xs i behind (omega (arith, small)) in
    record { at = rest.at; dropped = rest.dropped; read = rest.read; written = λ w. ap (λ (ys : List X). x ∷ ys) (rest.written w) }

-- ---- the step of a loop that goes down

-- those from a place on have their fate, and those before it are as they were
pub record IsLeftFrom (keeps : Bool) (v : Validation) (old : List Stored) (place : ℕ) (any : Bool) (now : List Stored) : Type 0 where
  pub left : List Stored
  pub leaves : Leaves keeps v (drop place old) left
  pub becomes : now ≡ take place old ++ map (after_validation v) left
  pub some : any ≡ list_any (is_validated v) left

after_unvalidated : (v : Validation) (x : Stored) → is_validated v x ≡ false → after_validation v x ≡ x
after_unvalidated v x is = ap (λ (b : Bool). cond b (renewed v x) x) is

after_validated : (v : Validation) (x : Stored) → is_validated v x ≡ true → after_validation v x ≡ renewed v x
after_validated v x is = ap (λ (b : Bool). cond b (renewed v x) x) is

-- one more stays, as it becomes
one_left : (keeps : Bool) (v : Validation) (old : List Stored) (n i : ℕ) (any some : Bool) (now : List Stored) (x y : Stored) → n ≡ suc i → i < length old
    → x ≡ get_or now i x → IsLeftFrom keeps v old n any now → may_stay keeps v x ≡ true → y ≡ after_validation v x
    → some ≡ (is_validated v x || any) → IsLeftFrom keeps v old i some (set now i y)
one_left keeps v old n i any some now x y next small at rest stays becomes is =
    let left = rest.left in
    let here = place old i (map (after_validation v) left) small in
    let now_is : now ≡ take (suc i) old ++ map (after_validation v) left = rest.becomes ∙ ap (λ (k : ℕ). take k old ++ map (after_validation v) left) next in
    let x_is : here.at ≡ x = sym (at ∙ ap (λ (l : List Stored). get_or l i x) now_is ∙ here.read x) in
    let behind : Leaves keeps v (drop (suc i) old) left = subst (λ (k : ℕ). Leaves keeps v (drop k old) left) next rest.leaves in
    record {
      left = x ∷ left;
      leaves = subst (λ (l : List Stored). Leaves keeps v l (x ∷ left)) (sym (here.dropped ∙ ap (λ (z : Stored). z ∷ drop (suc i) old) x_is)) (inr (stays, left, refl, behind));
      becomes = ap (λ (l : List Stored). set l i y) now_is ∙ here.written y ∙ ap (λ (z : Stored). take i old ++ z ∷ map (after_validation v) left) becomes;
      some = is ∙ ap (λ (b : Bool). is_validated v x || b) rest.some;
    }

pub stays_left : (keeps : Bool) (v : Validation) (old : List Stored) (n i : ℕ) (any : Bool) (now : List Stored) (x y : Stored) → n ≡ suc i → i < length old
    → x ≡ get_or now i x → IsLeftFrom keeps v old n any now → HasFate keeps v x fate.Stays y → IsLeftFrom keeps v old i any (set now i y)
stays_left keeps v old n i any now x y next small at rest has =
    one_left keeps v old n i any any now x y next small at rest
    (ap (λ (b : Bool). not b || may_become keeps (renewed v x)) has.0)
    (has.1 ∙ sym (after_unvalidated v x has.0))
    (sym (ap (λ (b : Bool). b || any) has.0))

or_true : (b : Bool) → (b || true) ≡ true
or_true true = refl
or_true false = refl

pub freshened_left : (keeps : Bool) (v : Validation) (old : List Stored) (n i : ℕ) (any : Bool) (now : List Stored) (x y : Stored) → n ≡ suc i → i < length old
    → x ≡ get_or now i x → IsLeftFrom keeps v old n any now → HasFate keeps v x fate.Freshened y → IsLeftFrom keeps v old i true (set now i y)
freshened_left keeps v old n i any now x y next small at rest has =
    one_left keeps v old n i any true now x y next small at rest
    (ap (λ (b : Bool). not (is_validated v x) || b) (sym (ap (may_become keeps) has.1) ∙ has.2) ∙ or_true (not (is_validated v x)))
    (has.1 ∙ sym (after_validated v x has.0))
    (sym (ap (λ (b : Bool). b || any) has.0))

-- one more goes
pub goes_left : (keeps : Bool) (v : Validation) (old : List Stored) (n i : ℕ) (any : Bool) (now changed new : List Stored) (x y : Stored) → n ≡ suc i → i < length old
    → x ≡ get_or now i x → IsLeftFrom keeps v old n any now → HasFate keeps v x fate.Goes y → changed ≡ set now i y → new ≡ take i changed ++ drop (i + 1) changed
    → IsLeftFrom keeps v old i any new
goes_left keeps v old n i any now changed new x y next small at rest goes change removed =
    let left = rest.left in
    let after = map (after_validation v) left in
    let here = place old i after small in
    let now_is : now ≡ take (suc i) old ++ after = rest.becomes ∙ ap (λ (k : ℕ). take k old ++ after) next in
    let x_is : here.at ≡ x = sym (at ∙ ap (λ (l : List Stored). get_or l i x) now_is ∙ here.read x) in
    let behind : Leaves keeps v (drop (suc i) old) left = subst (λ (k : ℕ). Leaves keeps v (drop k old) left) next rest.leaves in
    let changed_is : changed ≡ take i old ++ y ∷ after = change ∙ ap (λ (l : List Stored). set l i y) now_is ∙ here.written y in
    record {
      left = left;
      leaves = subst (λ (l : List Stored). Leaves keeps v l left) (sym (here.dropped ∙ ap (λ (z : Stored). z ∷ drop (suc i) old) x_is)) (inl (goes, behind));
      becomes = removed ∙ cut_one (take i old) y after i changed (length-take-le i old (omega (arith, small))) changed_is;
      some = rest.some;
    }
  where
    cut_one : (front : List Stored) (y : Stored) (after : List Stored) (i : ℕ) (changed : List Stored) → length front ≡ i → changed ≡ front ++ y ∷ after
        → take i changed ++ drop (i + 1) changed ≡ front ++ after
    cut_one front y after i changed size is =
        ap (λ (l : List Stored). take i l ++ drop (i + 1) l) is
        ∙ ap (λ (l : List Stored). l ++ drop (i + 1) (front ++ y ∷ after)) (take_at front (y ∷ after) i size)
        ∙ ap (λ (l : List Stored). front ++ l) (ap (drop (i + 1)) (sym (append_assoc front (y ∷ []) after)) ∙ drop_at (front ++ y ∷ []) after (i + 1) (omega (arith, size, length-append front (y ∷ []))))
