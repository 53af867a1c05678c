use Rattle.std.proofs.Common.{arith, refl}
use Rattle.hc_service.specs.declared.event.Happening.TheVariants.{OriginFailed}
use Rattle.hc_order.specs.declared.occurrence.Reason.TheVariants.{Reads}
use Rattle.hc_connection.proofs.TellLemmas.{on_forward}
use Rattle.hc_connection.proofs.peers.Peers.hear_origin.Goals as goal

pub returns-then-not-may_read-clause-tells : goal.returns-then-not-may_read-clause-tells
returns-then-not-may_read-clause-tells g c = λ log tells moment.
    on_forward g.C.Link.has_given g.C.Link.has_got g.C.Link.was_read g.C.Link.count 0 c.may_read.new.self log (c.may_read.ensures.tells log tells) moment (OriginFailed c.in-Some.forward) Reads tt refl refl (omega arith) refl refl (omega arith)
    tt (λ is. c.may_read.ensures.spent c.if-not-may_read.true)

pub returns-then-not-may_read-clause-kept : goal.returns-then-not-may_read-clause-kept
returns-then-not-may_read-clause-kept g c = λ log kept. (((rw c.in-Some.is at c.least.ensures.least) log kept).0, λ moment. c.forget.ensures.failed log moment Reads kept)
