use Rattle.std.proofs.Common.{Bool, inr, subst}
use Rattle.hc_order.specs.declared.receiver.Receiver.TheVariants.{Client}
use Rattle.hc_peers.specs.Heard.{IsAnswerOf, told}
use Rattle.hc_peers.specs.Keeping.{Hears}
use Rattle.hc_attended.proofs.KeepingLemmas.{hears_nothing}
use Rattle.hc_attended.proofs.TailLemmas.{tail_or_refused}
use Rattle.hc_crowd.proofs.TailLemmas.{may_end, not_over}
use Rattle.hc_crowd.proofs.traffic.Traffic.client_turn.Goals as goal

pub returns-then-is_closed-clause-heard : goal.returns-then-is_closed-clause-heard
returns-then-is_closed-clause-heard g c = hears_nothing c.drop_rest_of_client.ensures.kept

pub returns-clause-heard : goal.returns-clause-heard
returns-clause-heard g c =
    subst (λ (b : Bool). Hears g.W.Stream.Stream.has_given g.W.Stream.Stream.has_got (IsAnswerOf c.args.number b) (told (Client c.args.number) c.hear_client.result) c.args.self.now.links.peers c.hear_client.new.self.peers)
    c.hearing_of-hearing.ensures.awaited c.hear_client.ensures.heard

pub returns-then-is_closed-clause-tail : goal.returns-then-is_closed-clause-tail
returns-then-is_closed-clause-tail g c = λ over. inr
    (c.drop_rest_of_client.ensures.tail (not_over c.args.self.now.told.course c.args.self.now.links.peers c.args.number c.args.self.now.links.times.patience _ _ _ _ _ c.hearing_of-hearing.ensures.awaited c.hearing_of-hearing.ensures.tick c.hearing_of-hearing.ensures.grounds.late over))

pub returns-clause-tail : goal.returns-clause-tail
returns-clause-tail g c = λ over.
    tail_or_refused g.W.Stream.Stream.has_failed c.hearing_of-hearing.result.late c.hear_client.result _ _
    (not_over c.args.self.now.told.course c.args.self.now.links.peers c.args.number c.args.self.now.links.times.patience _ _ _ _ _ c.hearing_of-hearing.ensures.awaited c.hearing_of-hearing.ensures.tick c.hearing_of-hearing.ensures.grounds.late over)
    c.hear_client.ensures.fails

pub drop_rest_of_client-requires-clause-grounds : goal.drop_rest_of_client-requires-clause-grounds
drop_rest_of_client-requires-clause-grounds g c =
    let now = c.args.self.now in
    may_end now.told.course g.W.World.stop_asked now.giving_way now.links.times.patience now.links.time.tick now.links.peers c.args.number c.args.begun c.hearing_of-hearing.result now.told.asked
    c.hearing_of-hearing.ensures.tick c.hearing_of-hearing.ensures.grounds

pub hear_client-requires-clause-grounds : goal.hear_client-requires-clause-grounds
hear_client-requires-clause-grounds g c =
    let now = c.args.self.now in
    may_end now.told.course g.W.World.stop_asked now.giving_way now.links.times.patience now.links.time.tick now.links.peers c.args.number c.args.begun c.hearing_of-hearing.result now.told.asked
    c.hearing_of-hearing.ensures.tick c.hearing_of-hearing.ensures.grounds
