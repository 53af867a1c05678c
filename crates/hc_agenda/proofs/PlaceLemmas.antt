-- The first one of a line, and what is left of it.
use Rattle.std.proofs.Common.{◌≡◌, ℕ, ◌≤◌, ◌⊎◌, Bool, true, false, cond, eqb, List, [], ◌∷◌, length, Option, Some, None, Bor, refl, sym, ap, subst, inl, inr, ⊎_elim, arith, le_of_eq}
use Rattle.std.specs.List.{Contains}
use Rattle.std.specs.Option.{option_copied}
use Rattle.std.specs.Slice.{IsItemAt}
use Rattle.std.proofs.lemmas.Bool.{eqb-false, eqb-true}
use Rattle.std.proofs.lemmas.List.Elements.{Contains-append_cases, Contains-push_cases}
use Rattle.hc_agenda.specs.Places.{first_in, without_first}

-- what is lent as the first of a line is its first one
pub lent_first : (line : List ℕ) (lent : Option (Bor ℕ)) → IsItemAt line 0 lent → option_copied lent ≡ first_in line
lent_first [] None at = refl
lent_first [] (Some first) at = absurd (omega (arith, at.3.0))
lent_first (x ∷ line) None at = absurd (omega (arith, at.3))
lent_first (x ∷ line) (Some first) at = ap Some at.1

-- ---- a line that a forward leaves

either_way : (is : Bool) (forward first : ℕ) (rest : List ℕ) → (is ≡ true → first ≡ forward) → (cond is rest (first ∷ rest) ≡ first ∷ rest) ⊎ (first ∷ rest ≡ forward ∷ cond is rest (first ∷ rest))
either_way true forward first rest same = inr (ap (λ (f : ℕ). f ∷ rest) (same refl))
either_way false forward first rest same = inl refl

-- it is as before, or lacks its first one, which was that forward
pub left_line : (forward : ℕ) (line : List ℕ) → (without_first forward line ≡ line) ⊎ (line ≡ forward ∷ without_first forward line)
left_line forward [] = inl refl
left_line forward (first ∷ rest) = either_way (eqb first forward) forward first rest (eqb-true first forward)

behind_it : (forward other : ℕ) (line : List ℕ) → eqb forward other ≡ false → Contains (forward ∷ line) other → Contains line other
behind_it forward other line is_other there = ⊎_elim (λ at_first. absurd (not_first at_first)) (λ later. later) (Contains-append_cases (forward ∷ []) line other there)
  where
    not_first : Contains (forward ∷ []) other → ⊥
    not_first at_first = ⊎_elim (λ none. omega (arith, none.1)) (λ is. eqb-false forward other is_other is) (Contains-push_cases [] forward other at_first)

-- every other forward that stood there stands there still
pub others_stay : (forward other : ℕ) (line : List ℕ) → eqb forward other ≡ false → Contains line other → Contains (without_first forward line) other
others_stay forward other line is_other there =
    ⊎_elim
    (λ as_before. subst (λ (xs : List ℕ). Contains xs other) (sym as_before) there)
    (λ taken. behind_it forward other (without_first forward line) is_other (subst (λ (xs : List ℕ). Contains xs other) taken there))
    (left_line forward line)

-- it has no more of them
pub no_longer : (forward : ℕ) (line : List ℕ) → length (without_first forward line) ≤ length line
no_longer forward line = ⊎_elim (λ as_before. le_of_eq (ap length as_before)) (λ taken. one_fewer (ap length taken)) (left_line forward line)
  where
    one_fewer : length line ≡ length (forward ∷ without_first forward line) → length (without_first forward line) ≤ length line
    one_fewer counted = omega (arith, counted)
