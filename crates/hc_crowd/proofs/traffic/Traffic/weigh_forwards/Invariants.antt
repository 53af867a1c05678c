use Rattle.std.specs.Prelude.{List}
use Rattle.hc_agenda.specs.declared.reckoning.Load.{Load}
use Rattle.hc_crowd.specs.Lightening.{AddsLoads, weighed_forwards}
use Rattle.hc_crowd.proofs.traffic.Traffic.weigh_forwards.Given as goal

-- what those that are left add is what all of them add
abbrev pub invariant-forwards : goal.invariant-forwards
invariant-forwards g l = (after : List Load)
    → AddsLoads (g.A.Awaiting.holds l.cache) l.self.links.peers (weighed_forwards l.number-iterator) l.reckoning.loads.items after
    → AddsLoads (g.A.Awaiting.holds l.cache) l.self.links.peers (weighed_forwards l.self.links.peers.forwards.links.entries) l.initial.reckoning.loads.items after
