-- A directive of a name is there where the first of that name is.
use Rattle.std.proofs.Common.{◌≡◌, ℕ, Bool, true, false, cond, ◌||◌, List, [], ◌∷◌, Option, Some, None, refl, ap, ◌∙◌}
use Rattle.std.specs.Option.{is_some, option_map}
use Rattle.hc_directives.specs.Directives.{Directive, is_named, has_directive, first_directive}

some_first : (name : List ℕ) (directives : List Directive) → is_some (first_directive name directives) ≡ has_directive name directives
some_first name [] = refl
some_first name (d ∷ ds) = go (is_named name d) (some_first name ds)
  where
    go : (named : Bool) → is_some (first_directive name ds) ≡ has_directive name ds
        → is_some (cond named (Some d) (first_directive name ds)) ≡ (named || has_directive name ds)
    go true e = refl
    go false e = e

some_mapped : {A B : Type 0} (f : A → B) (found : Option A) → is_some found ≡ is_some (option_map f found)
some_mapped f None = refl
some_mapped f (Some a) = refl

pub first_is_there : {A : Type 0} (meant : A → Directive) (found : Option A) (name : List ℕ) (directives : List Directive) → option_map meant found ≡ first_directive name directives
    → is_some found ≡ has_directive name directives
first_is_there meant found name directives e = some_mapped meant found ∙ ap (λ (o : Option Directive). is_some o) e ∙ some_first name directives
