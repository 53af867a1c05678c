use Rattle.std.proofs.Common.{length, ◌-◌}
use Rattle.hc_bench.proofs.FeedingLemmas.{IsFeeding}
use Rattle.hc_bench.proofs.feeding.feed.Given as goal

-- the reader was given so many octets in so many pieces
abbrev pub invariant-pieces : goal.invariant-pieces
invariant-pieces g l =
    IsFeeding g.H.MessageHead.form l.fn.kind l.fn.room l.octets l.size l.before l.calls l.reader

abbrev pub decreases-pieces : goal.decreases-pieces
decreases-pieces g l = length l.octets - l.before
