use Rattle.hc_connection.proofs.TellLemmas.{left}
use Rattle.hc_connection.proofs.client_side.ClientSide.leave_for.Goals as goal

pub returns-clause-tells : goal.returns-clause-tells
returns-clause-tells g c = λ log tells may moment. left g.C.Link.has_given g.C.Link.has_got g.C.Link.was_read g.C.Link.count c.args.self.now log tells moment c.args.reason may c.if-self.false c.if-self-2.false
