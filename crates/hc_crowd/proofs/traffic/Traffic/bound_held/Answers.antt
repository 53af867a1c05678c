use Rattle.std.proofs.Common.{◌∙◌, ◌++◌, List, ap, inr, subst}
use Rattle.std.specs.List.Sorted.{IsPermutation}
use Rattle.hc_agenda.specs.declared.reckoning.Load.{Load}
use Rattle.hc_crowd.specs.Lightening.{weighed_clients, weighed_forwards}
use Rattle.hc_crowd.proofs.LighteningLemmas.{adds_both}
use Rattle.hc_crowd.proofs.traffic.Traffic.bound_held.Goals as goal

pub returns-clause-cuts : goal.returns-clause-cuts
returns-clause-cuts g c =
    let holds = g.A.Awaiting.holds c.args.cache.now in
    let peers = c.args.self.now.links.peers in
    let ranked = c.into_ranking.result.loads.items in
    let adds = adds_both holds peers (weighed_clients peers.clients.links.entries) (weighed_forwards peers.forwards.links.entries) _ _ _ c.in_ok-weigh_clients.ensures c.in_ok-weigh_forwards.ensures in
    inr (record {
      loads = adds.loads;
      are = adds.are;
      ranked = ranked;
      same = subst (λ (l : List Load). IsPermutation l ranked) (adds.added ∙ ap (λ (l : List Load). l ++ adds.loads) c.new-reckoning.ensures) c.into_ranking.ensures;
      lightened = rw c.reckoned.ensures c.lighten-left.ensures.cuts;
    })
