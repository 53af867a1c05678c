use Rattle.std.proofs.Common.{◌≡◌, drop, map}
use Rattle.hc_history.specs.Filters.{compared_names}
use Rattle.hc_gaps.specs.Differing.{with_names}
use Rattle.hc_gaps.proofs.differing.push_compared.Given as goal

-- the names so far, and those that are left
abbrev pub invariant-loop-name : goal.invariant-loop-name
invariant-loop-name l =
    with_names (map (λ known. known.now) l.names.items) (map (λ known. known.now) (drop l.name-index l.name-items))
    ≡ with_names (map (λ known. known.now) l.fn.names.items) (compared_names l.claim l.state)
