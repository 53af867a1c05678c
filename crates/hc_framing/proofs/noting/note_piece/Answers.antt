use Rattle.std.proofs.Common.{arith}
use Rattle.hc_framing.proofs.OrderLemmas.{order_push, end_push}
use Rattle.hc_framing.proofs.noting.note_piece.Goals as goal

pub returns-in-Ok-clause-ordered : goal.returns-in-Ok-clause-ordered
returns-in-Ok-clause-ordered c = rw c.in-Ok.ensures.items (order_push 0 c.args.pieces.now.items _ c.requires.ordered (omega (arith, c.requires.behind)))

pub returns-in-Ok-clause-within : goal.returns-in-Ok-clause-within
returns-in-Ok-clause-within c =
    rw c.in-Ok.ensures.items (omega (arith, end_push 0 c.args.pieces.now.items (record { start = c.in-Ok-Ok.start; len = c.in-Ok-Ok.len }), c.in-Ok-Ok.ensures, c.in-Ok-Ok.ensures'))
