-- The gravest that became of fields, one after another.
use Rattle.std.proofs.Common.{◌≡◌, ◌&&◌, ◌||◌, ◌++◌, Bool, true, false, ℕ, List, [], ◌∷◌, Option, refl, ap, sym, ◌∙◌}
use Rattle.std.proofs.lemmas.List.Folds.{list_any-append}
use Rattle.hc_update.specs.declared.stored.Stored.{Stored}
use Rattle.hc_history.specs.Claims.{Claim}
use Rattle.hc_gaps.specs.declared.differing.Change.{Change}
use Rattle.hc_gaps.specs.declared.differing.Change.TheVariants.{Added, Dropped, Changed}
use Rattle.hc_gaps.specs.declared.differing.Freedom.TheVariants.{Nothing}
use Rattle.hc_gaps.specs.Demanding.{is_change, is_freedom}
use Rattle.hc_gaps.specs.Differing.{change_of, freedom_of, gravest_in, gravest_of, gravest_with, has_unfree}

one_more : (d c a : Bool) (change : Change) (unfree : Bool)
    → gravest_with (gravest_of d c a) change unfree
    ≡ gravest_of (d || ((is_change change Dropped && unfree) || false)) (c || ((is_change change Changed && unfree) || false)) (a || ((is_change change Added && unfree) || false))
one_more true c a Dropped true = refl
one_more false true a Dropped true = refl
one_more false false true Dropped true = refl
one_more false false false Dropped true = refl
one_more true c a Dropped false = refl
one_more false true a Dropped false = refl
one_more false false true Dropped false = refl
one_more false false false Dropped false = refl
one_more true c a Changed true = refl
one_more false true a Changed true = refl
one_more false false true Changed true = refl
one_more false false false Changed true = refl
one_more true c a Changed false = refl
one_more false true a Changed false = refl
one_more false false true Changed false = refl
one_more false false false Changed false = refl
one_more true c a Added true = refl
one_more false true a Added true = refl
one_more false false true Added true = refl
one_more false false false Added true = refl
one_more true c a Added false = refl
one_more false true a Added false = refl
one_more false false true Added false = refl
one_more false false false Added false = refl

-- one of the name that comes last became so, or of those before it
also : (claim : Claim) (state : Stored) (change : Change) (names : List (List ℕ)) (name : List ℕ)
    → has_unfree claim state change (names ++ name ∷ [])
    ≡ (has_unfree claim state change names || ((is_change (change_of claim state name) change && is_freedom (freedom_of claim state name) Nothing) || false))
also claim state change names name =
    list_any-append (λ (n : List ℕ). is_change (change_of claim state n) change && is_freedom (freedom_of claim state n) Nothing) names (name ∷ [])

pub gravest_more : (claim : Claim) (state : Stored) (names : List (List ℕ)) (name : List ℕ) (before new : Option Change) (change : Change) (unfree : Bool)
    → change ≡ change_of claim state name → unfree ≡ is_freedom (freedom_of claim state name) Nothing
    → before ≡ gravest_in claim state names → new ≡ gravest_with before change unfree → new ≡ gravest_in claim state (names ++ name ∷ [])
gravest_more claim state names name before new change unfree change-is unfree-is was is =
    let d = has_unfree claim state Dropped names in
    let c = has_unfree claim state Changed names in
    let a = has_unfree claim state Added names in
    let became = change_of claim state name in
    let nothing = is_freedom (freedom_of claim state name) Nothing in
    is
    ∙ ap (λ (o : Option Change). gravest_with o change unfree) was
    ∙ ap (λ (one : Change). gravest_with (gravest_of d c a) one unfree) change-is
    ∙ ap (λ (b : Bool). gravest_with (gravest_of d c a) became b) unfree-is
    ∙ one_more d c a became nothing
    ∙ sym (ap (λ (b : Bool). gravest_of b (has_unfree claim state Changed (names ++ name ∷ [])) (has_unfree claim state Added (names ++ name ∷ []))) (also claim state Dropped names name)
    ∙ ap (λ (b : Bool). gravest_of (d || ((is_change became Dropped && nothing) || false)) b (has_unfree claim state Added (names ++ name ∷ []))) (also claim state Changed names name)
    ∙ ap (λ (b : Bool). gravest_of (d || ((is_change became Dropped && nothing) || false)) (c || ((is_change became Changed && nothing) || false)) b) (also claim state Added names name))
