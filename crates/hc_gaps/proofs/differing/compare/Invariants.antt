use Rattle.std.proofs.Common.{◌≡◌, ◌++◌, List, ℕ, drop, map}
use Rattle.std.specs.Prelude.{filter}
use Rattle.hc_gaps.specs.Differing.{AreListed, differing_in, differs}
use Rattle.hc_gaps.proofs.differing.compare.Given as goal

-- those so far, and those that are left
abbrev pub invariant-loop-name : goal.invariant-loop-name
invariant-loop-name l =
    (so_far : List (List ℕ)) × AreListed l.claim l.state so_far l.found
    × (so_far ++ filter (differs l.claim l.state) (map (λ known. known.now) (drop l.name-index l.name-items)) ≡ differing_in l.claim l.state)
