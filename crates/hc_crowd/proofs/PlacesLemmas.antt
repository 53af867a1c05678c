-- Lines of forwards.
use Rattle.std.proofs.Common.{◌≡◌, ◌∙◌, ℕ, Bool, true, false, List, [], ◌∷◌, Option, None, Some, refl, sym, ap, true≢false}
use Rattle.hc_agenda.specs.Places.{TakesForward, first_in}

abbrev is_there : Option ℕ → Bool
is_there None = false
is_there (Some forward) = true

-- a line without a first one is empty
pub none_left : (line : List ℕ) → first_in line ≡ None → line ≡ []
none_left [] none = refl
none_left (first ∷ rest) none = absurd (true≢false (ap is_there none))

abbrev number_of : ℕ → Option ℕ → ℕ
number_of other None = other
number_of other (Some forward) = forward

-- the first one is taken out of a line
pub first_goes : (forward : ℕ) (before after : List ℕ) → first_in before ≡ Some forward → TakesForward (first_in before) before after → before ≡ forward ∷ after
first_goes forward [] after is takes = absurd (true≢false (sym (ap is_there is)))
first_goes forward (first ∷ rest) after is takes = takes ∙ ap (λ (f : Option ℕ). number_of first f ∷ after) is
