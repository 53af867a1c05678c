use Rattle.std.proofs.Common.{◌≡◌, List, length}
use Rattle.hc_agenda.specs.Agendas.{owed_in}
use Rattle.hc_order.specs.Log.{Move}
use Rattle.hc_peers.specs.Peers.{ArePeers, Bounds}
use Rattle.hc_crowd.proofs.traffic.Traffic.write_owed.Given as goal

-- what was told so far is told still, and the places are as they were
abbrev pub invariant-owed : goal.invariant-owed
invariant-owed g l = ((bounds : Bounds) (log : List Move) → ArePeers g.W.Stream.Stream.has_given g.W.Stream.Stream.has_got bounds l.initial.self.links.peers log
    → ArePeers g.W.Stream.Stream.has_given g.W.Stream.Stream.has_got bounds l.self.links.peers log)
    × (l.self.links.peers.places ≡ l.initial.self.links.peers.places)

-- one after another is written to
abbrev pub decreases-owed : goal.decreases-owed
decreases-owed g l = length (owed_in l.self.links.agenda)
