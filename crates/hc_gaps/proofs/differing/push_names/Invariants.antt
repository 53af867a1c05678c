use Rattle.std.proofs.Common.{◌≡◌, length, map}
use Rattle.hc_history.specs.Filters.{names_of}
use Rattle.hc_gaps.specs.Differing.{with_names}
use Rattle.hc_gaps.proofs.differing.push_names.Given as goal

-- the names so far, and those of the lines that are left
abbrev pub invariant-loop-name : goal.invariant-loop-name
invariant-loop-name l =
    with_names (map (λ known. known.now) l.names.items) (names_of l.rest)
    ≡ with_names (map (λ known. known.now) l.initial.names.items) (names_of l.initial.rest)

abbrev pub decreases-loop-name : goal.decreases-loop-name
decreases-loop-name l = length l.rest
