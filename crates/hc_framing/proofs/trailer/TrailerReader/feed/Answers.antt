use Rattle.std.proofs.Common.{◌++◌, take}
use Rattle.hc_framing.proofs.TrailerLemmas.{fault_in_piece, end_in_piece}
use Rattle.hc_framing.proofs.trailer.TrailerReader.feed.Goals as goal

pub returns-in-Err : goal.returns-in-Err
returns-in-Err c = λ octets agrees.
    fault_in_piece c.in-Err.fault octets c.args.piece.now c.loop-index.index c.loop-index-test.true
    (c.in-Err.ensures (octets ++ take c.loop-index.index c.args.piece.now) (c.loop-index.invariant octets agrees))

pub returns-in-Ok-true : goal.returns-in-Ok-true
returns-in-Ok-true c = λ octets agrees.
    end_in_piece octets c.args.piece.now c.loop-index.index c.loop-index-test.true
    (rw c.in-Ok-true.field-0-test at (c.in-Ok-true.ensures (octets ++ take c.loop-index.index c.args.piece.now) (c.loop-index.invariant octets agrees)))
