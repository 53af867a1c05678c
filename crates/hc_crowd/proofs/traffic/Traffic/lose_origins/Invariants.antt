use Rattle.hc_peers.specs.Keeping.{KeepsPeers}
use Rattle.hc_crowd.proofs.traffic.Traffic.lose_origins.Given as goal

-- what was told so far is told still, and nothing was written
abbrev pub invariant-forwards : goal.invariant-forwards
invariant-forwards g l = KeepsPeers g.W.Stream.Stream.has_given g.W.Stream.Stream.has_got l.initial.self.links.peers l.self.links.peers
