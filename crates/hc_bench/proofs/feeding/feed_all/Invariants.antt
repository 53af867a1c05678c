use Rattle.std.proofs.Common.{length}
use Rattle.hc_bench.specs.Feeding.{AreReadThen}
use Rattle.hc_bench.proofs.feeding.feed_all.Given as goal

-- so far the octets are these messages
abbrev pub invariant-messages : goal.invariant-messages
invariant-messages g l =
    AreReadThen g.H.MessageHead.form l.kind l.room
    l.messages.items l.octets l.rest

abbrev pub decreases-messages : goal.decreases-messages
decreases-messages g l = length l.rest
