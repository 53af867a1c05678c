use Rattle.std.proofs.Common.{◌≡◌, length}
use Rattle.hc_head.specs.Unfinished.{behind_blank}
use Rattle.hc_head.proofs.unfinished.behind_blank.Given as goal

abbrev pub invariant-loop-behind : goal.invariant-loop-behind
invariant-loop-behind l = behind_blank l.rest ≡ behind_blank l.fn.octets

abbrev pub decreases-loop-behind : goal.decreases-loop-behind
decreases-loop-behind l = length l.rest
