use Rattle.std.proofs.Common.{arith, refl}
use Rattle.hc_service.specs.declared.event.Happening.TheVariants.{OriginFailed}
use Rattle.hc_order.specs.declared.occurrence.Reason.TheVariants.{Peer}
use Rattle.hc_connection.proofs.TellLemmas.{no_reads, on_forward, still_read}
use Rattle.hc_connection.proofs.peers.Peers.lost.Goals as goal

pub returns-then-forget-clause-tells : goal.returns-then-forget-clause-tells
returns-then-forget-clause-tells g c = λ few log tells moment.
    on_forward g.C.Link.has_given g.C.Link.has_got g.C.Link.was_read g.C.Link.count 0 c.args.self.now.client log tells moment (OriginFailed c.args.forward) Peer tt refl refl (omega arith) refl refl (omega arith)
    (still_read g.C.Link.has_given g.C.Link.has_got g.C.Link.was_read g.C.Link.count 0 c.args.self.now.client log tells few) (λ is. no_reads is c.args.self.now.client.reads)

pub returns-then-forget-clause-kept : goal.returns-then-forget-clause-kept
returns-then-forget-clause-kept g c = λ log kept. (c.forget.ensures.was c.if-forget.true log kept, λ moment. c.forget.ensures.failed log moment Peer kept)

pub returns-clause-kept : goal.returns-clause-kept
returns-clause-kept g c = λ log kept. c.forget.ensures.same c.if-forget.false log kept
