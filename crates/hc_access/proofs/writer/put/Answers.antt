use Rattle.hc_access.proofs.LogLemmas.{piece_more}
use Rattle.hc_access.proofs.writer.put.Goals as goal

pub pieces-preserved : goal.pieces-preserved
pieces-preserved g c = piece_more _ _ _ _ c.pieces.rest.now c.in-Ok.count c.pieces.invariant c.in-Ok.ensures.bytes
