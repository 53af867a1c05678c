use Rattle.std.proofs.Common.{◌≡◌, ◌==◌, false, arith}
use Rattle.std.proofs.lemmas.Bool.Decides.{nat_tests}
use Rattle.hc_order.specs.declared.receiver.Receiver.TheVariants.{Client}
use Rattle.hc_connection.proofs.TellLemmas.{elsewhere, no_reply_of_its, not_its}
use Rattle.hc_connection.proofs.peers.Peers.reply.Goals as goal

pub returns-then-number-clause-tells : goal.returns-then-number-clause-tells
returns-then-number-clause-tells g c = λ log tells.
    let other : (c.args.number == c.args.self.now.client.number) ≡ false = grind (arith, nat_tests, c.if-number.true, c.number.ensures) in
    elsewhere g.C.Link.has_given g.C.Link.has_got g.C.Link.was_read g.C.Link.count c.args.self.now.client log (Client c.args.number) c.args.text.now
    (not_its c.args.self.now.client.number c.args.number c.args.text.now other) (no_reply_of_its c.args.self.now.client.number c.args.number other) tells
