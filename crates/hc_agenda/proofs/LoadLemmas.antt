-- Loads in the order of their octets.
use Rattle.std.proofs.Common.{◌≤◌, List, [], ◌∷◌, ◌++◌, length, refl, slice_index_or, subst, arith}
use Rattle.std.proofs.lemmas.List.{get_or_append_left, get_or_push, length-append}
use Rattle.std.specs.List.{All}
use Rattle.std.specs.List.Sorted.{IsNonDecreasingBy}
use Rattle.hc_agenda.specs.declared.reckoning.Load.{Load}
use Rattle.hc_agenda.specs.Loads.{weight}

-- of loads that don't fall the last is as heavy as each before it
pub heaviest_last : (front : List Load) (load : Load) → IsNonDecreasingBy weight (front ++ load ∷ []) → All (λ other. weight other ≤ weight load) front
heaviest_last front load ordered = λ k d less.
    let rises = ordered k (length front) d (omega (arith, less)) (omega (arith, length-append front (load ∷ []))) in
    subst (λ (last : Load). weight (slice_index_or front k d) ≤ weight last) (get_or_push front load d (length front) refl)
    (subst (λ (first : Load). weight first ≤ weight (slice_index_or (front ++ load ∷ []) (length front) d)) (get_or_append_left front (load ∷ []) d k less) rises)
