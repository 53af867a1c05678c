use Rattle.hc_peers.specs.Keeping.{KeepsWithin}
use Rattle.hc_crowd.proofs.traffic.Traffic.welcome.Given as goal

-- what was told so far is told still, and nothing was written
abbrev pub invariant-knocks : goal.invariant-knocks
invariant-knocks g l = KeepsWithin g.W.Stream.Stream.has_given g.W.Stream.Stream.has_got l.limits.connections l.initial.self.links.peers l.self.links.peers
