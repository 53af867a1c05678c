use Rattle.std.proofs.Common.{◌∙◌, List, subst, sym}
use Rattle.hc_order.specs.declared.receiver.Receiver.{Receiver}
use Rattle.hc_order.specs.declared.receiver.Receiver.TheVariants.{Client}
use Rattle.hc_crowd.specs.Lightening.{AddsLoads, weighed_clients}
use Rattle.hc_crowd.proofs.LighteningLemmas.{adds_then, weighs_client}
use Rattle.hc_crowd.proofs.traffic.Traffic.weigh_clients.Goals as goal

pub clients-preserved : goal.clients-preserved
clients-preserved g c = λ after adds.
    let holds = g.A.Awaiting.holds c.args.cache.now in
    let peers = c.args.self.now.links.peers in
    let n = c.in-Some.number.now in
    let rest = c.next.new.self in
    let weighed_now = c.in_ok-weigh.ensures in
    c.clients.invariant after
    (subst (λ entries. AddsLoads holds peers (weighed_clients entries) c.clients.reckoning.loads.items after) (sym c.in-Some.ensures.steps)
    (subst (λ (links : List Receiver). AddsLoads holds peers links c.clients.reckoning.loads.items after) (sym (weighs_client n c.in-Some.client.now rest (sym c.is_cut.ensures ∙ c.if-is_cut.false)))
    (adds_then holds peers (Client n) (weighed_clients rest) weighed_now.0 _ _ after weighed_now.1 weighed_now.2 adds)))
