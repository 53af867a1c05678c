use Rattle.std.proofs.Common.{◌∙◌, List, subst, sym}
use Rattle.hc_order.specs.declared.receiver.Receiver.{Receiver}
use Rattle.hc_order.specs.declared.receiver.Receiver.TheVariants.{Origin}
use Rattle.hc_crowd.specs.Lightening.{AddsLoads, weighed_forwards}
use Rattle.hc_crowd.proofs.LighteningLemmas.{adds_then, weighs_forward}
use Rattle.hc_crowd.proofs.traffic.Traffic.weigh_forwards.Goals as goal

pub forwards-preserved : goal.forwards-preserved
forwards-preserved g c = λ after adds.
    let holds = g.A.Awaiting.holds c.args.cache.now in
    let peers = c.args.self.now.links.peers in
    let n = c.in-Some.number.now in
    let rest = c.next.new.self in
    let weighed_now = c.in_ok-weigh.ensures in
    c.forwards.invariant after
    (subst (λ entries. AddsLoads holds peers (weighed_forwards entries) c.forwards.reckoning.loads.items after) (sym c.in-Some.ensures.steps)
    (subst (λ (links : List Receiver). AddsLoads holds peers links c.forwards.reckoning.loads.items after) (sym (weighs_forward n c.in-Some.forward.now rest (sym c.is_underway.ensures ∙ c.if-not-is_underway.false)))
    (adds_then holds peers (Origin n) (weighed_forwards rest) weighed_now.0 _ _ after weighed_now.1 weighed_now.2 adds)))
