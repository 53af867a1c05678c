use Rattle.std.proofs.Common.{◌≡◌, length}
use Rattle.hc_head.specs.Unfinished.{behind_space}
use Rattle.hc_head.proofs.unfinished.behind_space.Given as goal

abbrev pub invariant-loop-octet : goal.invariant-loop-octet
invariant-loop-octet l = behind_space l.rest ≡ behind_space l.fn.octets

abbrev pub decreases-loop-octet : goal.decreases-loop-octet
decreases-loop-octet l = length l.rest
