-- What a response takes the place of.
use Rattle.std.proofs.Common.{◌≡◌, ℕ, ◌<◌, Bool, true, false, ◌||◌, List, [], ◌∷◌, length, map, refl, sym, ap, arith}
use Rattle.std.specs.Prelude.{codes}
use Rattle.std.specs.List.{list_any, list_all, flat_map}
use Rattle.hc_fields.specs.declared.fields.Field.{Field}
use Rattle.hc_fields.specs.Values.{has_name}
use Rattle.hc_fields.specs.Lists.{list_members}
use Rattle.hc_fields.proofs.UpdateLemmas.{values_absent}
use Rattle.hc_rules.specs.Selecting.{is_met, selects}
use Rattle.hc_update.specs.declared.stored.Stored.{Stored}
use Rattle.hc_store.specs.Choosing.{is_selected}
use Rattle.hc_store.specs.Calls.{has_vary}

-- without a Vary line every request is selected
selected_without_vary : (fields forwarded presented : List Field) → has_name (codes "vary") fields ≡ false → true ≡ selects fields forwarded presented
selected_without_vary fields forwarded presented absent =
    sym (ap (λ (values : List (List ℕ)). list_all (is_met forwarded presented) (flat_map list_members values)) (values_absent (codes "vary") fields absent))

first_of_either : (a b : Bool) → (a || b) ≡ false → a ≡ false
first_of_either false b none = refl
first_of_either true b none = absurd (cc)

true_or : (a b : Bool) → true ≡ a → (a || b) ≡ true
true_or true b is = refl
true_or false b is = absurd (cc)

-- without a Vary line each is selected
pub first_is_selected : (presented : List Field) (xs : List Stored) → 0 < length xs → has_vary xs ≡ false
    → list_any (λ mark. mark) (map (is_selected presented) xs) ≡ true
first_is_selected presented [] some none = absurd (omega (arith, some))
first_is_selected presented (x ∷ xs) some none =
    true_or (is_selected presented x) (list_any (λ mark. mark) (map (is_selected presented) xs))
    (selected_without_vary x.fields x.request.fields presented (first_of_either (has_name (codes "vary") x.fields) (has_vary xs) none))

pub true_is_false : false ≡ true → ⊥
true_is_false is = cc
