use Rattle.std.proofs.Common.{length}
use Rattle.hc_status.proofs.LoopLemmas.{ReadsMembers}
use Rattle.hc_status.proofs.members.members.Given as goal

abbrev pub invariant-loop-members : goal.invariant-loop-members
invariant-loop-members l = ReadsMembers l.text l.members.items l.rest

abbrev pub decreases-loop-members : goal.decreases-loop-members
decreases-loop-members l = length l.rest
