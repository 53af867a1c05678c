use Rattle.std.proofs.Common.{◌≡◌, ◌++◌, List, ℕ}
use Rattle.std.specs.Prelude.{filter}
use Rattle.hc_gaps.specs.Selecting.{AreNamed, is_unmet, unmet_in}
use Rattle.hc_gaps.proofs.selecting.unmet_members.Given as goal

-- those so far, and those that are left
abbrev pub invariant-loop-member : goal.invariant-loop-member
invariant-loop-member l =
    (so_far : List (List ℕ)) × AreNamed l.claim l.state so_far l.found
    × (so_far ++ filter (is_unmet l.claim l.state) l.member-iterator ≡ unmet_in l.claim l.state)
