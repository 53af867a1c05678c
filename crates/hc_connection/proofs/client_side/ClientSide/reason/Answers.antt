use Rattle.std.proofs.Common.{arith}
use Rattle.hc_connection.proofs.TellLemmas.{by_peer, reads_reached, replies_reached, still_read}
use Rattle.hc_connection.proofs.client_side.ClientSide.reason.Goals as goal

pub returns-then-self-ge-MOST_REPLIES : goal.returns-then-self-ge-MOST_REPLIES
returns-then-self-ge-MOST_REPLIES g c = λ log tells. replies_reached g.C.Link.has_given g.C.Link.has_got g.C.Link.was_read g.C.Link.count c.args.self.now log tells (omega (arith, c.if-self-ge-MOST_REPLIES.true))

pub returns-then-is_spent : goal.returns-then-is_spent
returns-then-is_spent g c = λ log tells.
    reads_reached g.C.Link.has_given g.C.Link.has_got g.C.Link.was_read g.C.Link.count c.args.self.now log tells (omega (arith, c.if-self-ge-MOST_REPLIES.false)) (c.is_spent.ensures.spent c.if-is_spent.true)

pub returns : goal.returns
returns g c = λ log tells.
    by_peer g.C.Link.has_given g.C.Link.has_got g.C.Link.was_read g.C.Link.count c.args.self.now log tells (omega (arith, c.if-self-ge-MOST_REPLIES.false))
    (still_read g.C.Link.has_given g.C.Link.has_got g.C.Link.was_read g.C.Link.count 0 c.args.self.now log tells (c.is_spent.ensures.unspent c.if-is_spent.false))
