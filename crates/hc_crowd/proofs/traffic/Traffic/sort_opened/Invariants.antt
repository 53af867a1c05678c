use Rattle.std.proofs.Common.{length}
use Rattle.hc_agenda.specs.Places.{opened_in}
use Rattle.hc_peers.specs.Keeping.{KeepsPeers}
use Rattle.hc_crowd.proofs.traffic.Traffic.sort_opened.Given as goal

-- what was told so far is told still, and nothing was written
abbrev pub invariant-opened : goal.invariant-opened
invariant-opened g l = KeepsPeers g.W.Stream.Stream.has_given g.W.Stream.Stream.has_got l.initial.self.links.peers l.self.links.peers

-- one after another is sorted
abbrev pub decreases-opened : goal.decreases-opened
decreases-opened g l = length (opened_in l.self.links.peers.places)
