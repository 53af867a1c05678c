use Rattle.hc_connection.proofs.TellLemmas.{failed_now, lost, wrote}
use Rattle.hc_connection.proofs.client_side.ClientSide.reply.Goals as goal

pub returns-then-self-clause-tells : goal.returns-then-self-clause-tells
returns-then-self-clause-tells g c = λ log tells.
    lost g.C.Link.has_given g.C.Link.has_got g.C.Link.was_read g.C.Link.count c.args.self.now log tells c.args.text.now c.saturating_add-self.result c.saturating_add-self.ensures c.if-self.true

pub returns-in-Ok-clause-tells : goal.returns-in-Ok-clause-tells
returns-in-Ok-clause-tells g c = λ log tells.
    wrote g.C.Link.has_given g.C.Link.has_got g.C.Link.was_read g.C.Link.count c.args.self.now log tells c.args.text.now c.saturating_add-self.result c.saturating_add-self.ensures c.send_text.new.link c.if-self.false
    c.in-Ok.ensures.given c.in-Ok.ensures.got c.in-Ok.ensures.reads c.in-Ok.ensures.count

pub returns-in-Err-clause-tells : goal.returns-in-Err-clause-tells
returns-in-Err-clause-tells g c = λ log tells.
    failed_now g.C.Link.has_given g.C.Link.has_got g.C.Link.was_read g.C.Link.count c.args.self.now log tells c.args.text.now c.saturating_add-self.result c.saturating_add-self.ensures c.send_text.new.link c.if-self.false
    c.in-Err.ensures.given c.in-Err.ensures.got c.in-Err.ensures.reads c.in-Err.ensures.count
