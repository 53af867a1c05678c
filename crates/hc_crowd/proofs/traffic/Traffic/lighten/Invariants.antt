use Rattle.std.specs.Vec.{vec_len}
use Rattle.hc_agenda.specs.Loads.{cuts_to}
use Rattle.hc_peers.specs.Keeping.{KeepsPeers}
use Rattle.hc_crowd.specs.Lightening.{LightenSoFar}
use Rattle.hc_crowd.proofs.traffic.Traffic.lighten.Given as goal

-- what was told so far is told still, and nothing was written; the heaviest were cut off so far, and no others
abbrev pub invariant-loads : goal.invariant-loads
invariant-loads g l = KeepsPeers g.W.Stream.Stream.has_given g.W.Stream.Stream.has_got l.initial.self.links.peers l.self.links.peers
    × LightenSoFar (cuts_to l.fn.limit) l.initial.ranking.loads.items l.ranking.loads.items l.initial.self.links.peers l.self.links.peers

abbrev pub decreases-loads : goal.decreases-loads
decreases-loads g l = vec_len l.ranking.loads
