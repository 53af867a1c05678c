use Rattle.std.proofs.Common.{length}
use Rattle.hc_status.proofs.LoopLemmas.{ReadsParameters}
use Rattle.hc_status.proofs.parameters.parameters.Given as goal

abbrev pub invariant-loop-behind : goal.invariant-loop-behind
invariant-loop-behind l = ReadsParameters l.text l.params l.rest

abbrev pub decreases-loop-behind : goal.decreases-loop-behind
decreases-loop-behind l = length l.rest
