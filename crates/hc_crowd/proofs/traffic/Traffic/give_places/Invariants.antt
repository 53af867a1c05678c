use Rattle.std.proofs.Common.{◌≡◌}
use Rattle.hc_agenda.specs.Places.{count_waiting, opened_in}
use Rattle.hc_peers.specs.Keeping.{KeepsPeers}
use Rattle.hc_crowd.proofs.traffic.Traffic.give_places.Given as goal

-- what was told so far is told still, and nothing was written; none more was opened
abbrev pub invariant-places : goal.invariant-places
invariant-places g l = KeepsPeers g.W.Stream.Stream.has_given g.W.Stream.Stream.has_got l.initial.self.links.peers l.self.links.peers
    × (opened_in l.self.links.peers.places ≡ opened_in l.initial.self.links.peers.places)

-- one after another stands in line no more
abbrev pub decreases-places : goal.decreases-places
decreases-places g l = count_waiting l.self.links.peers.places
