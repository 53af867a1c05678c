use Rattle.std.proofs.Common.{arith, refl}
use Rattle.hc_service.specs.declared.event.Happening.TheVariants.{OriginBytes, OriginEnd, OriginFailed}
use Rattle.hc_order.specs.declared.occurrence.Reason.TheVariants.{Peer}
use Rattle.hc_connection.proofs.TellLemmas.{no_reads, on_forward, read_still}
use Rattle.hc_connection.proofs.peers.Peers.hear_forward.Goals as goal

pub returns-in-Octets-clause-tells : goal.returns-in-Octets-clause-tells
returns-in-Octets-clause-tells g c = λ log tells moment.
    on_forward g.C.Link.has_given g.C.Link.has_got g.C.Link.was_read g.C.Link.count 1 c.args.self.now.client log tells moment (OriginBytes c.args.forward c.in-Octets.octets) Peer tt refl refl (omega arith) refl refl
    (rw c.in-Octets.is at c.in_ok-octets.ensures.few) (refl, read_still g.C.Link.has_given g.C.Link.has_got g.C.Link.was_read g.C.Link.count c.args.self.now.client log tells) (λ is. no_reads is c.args.self.now.client.reads)

pub returns-in-End-clause-tells : goal.returns-in-End-clause-tells
returns-in-End-clause-tells g c = λ log tells moment.
    on_forward g.C.Link.has_given g.C.Link.has_got g.C.Link.was_read g.C.Link.count 1 c.args.self.now.client log tells moment (OriginEnd c.args.forward) Peer tt refl refl (omega arith) refl refl
    (omega arith) (refl, read_still g.C.Link.has_given g.C.Link.has_got g.C.Link.was_read g.C.Link.count c.args.self.now.client log tells) (λ is. no_reads is c.args.self.now.client.reads)

pub returns-in-Failure-clause-tells : goal.returns-in-Failure-clause-tells
returns-in-Failure-clause-tells g c = λ log tells moment.
    on_forward g.C.Link.has_given g.C.Link.has_got g.C.Link.was_read g.C.Link.count 1 c.args.self.now.client log tells moment (OriginFailed c.args.forward) Peer tt refl refl (omega arith) refl refl
    (omega arith) (read_still g.C.Link.has_given g.C.Link.has_got g.C.Link.was_read g.C.Link.count c.args.self.now.client log tells) (λ is. no_reads is c.args.self.now.client.reads)

pub returns-in-Octets-clause-kept : goal.returns-in-Octets-clause-kept
returns-in-Octets-clause-kept g c = λ log least kept. (least, (rw c.in-Octets.is at c.in_ok-octets.ensures.kept) log kept)

pub returns-in-End-clause-kept : goal.returns-in-End-clause-kept
returns-in-End-clause-kept g c = λ log least kept. (least, λ moment. c.forget.ensures.ended log moment Peer ((rw c.in-End.is at c.in_ok-octets.ensures.kept) log kept))

pub returns-in-Failure-clause-kept : goal.returns-in-Failure-clause-kept
returns-in-Failure-clause-kept g c = λ log least kept.
    (least.0, λ moment. c.forget-in-Failure.ensures.failed log moment Peer ((rw c.in-Failure.is at c.in_ok-octets.ensures.kept) log kept))
