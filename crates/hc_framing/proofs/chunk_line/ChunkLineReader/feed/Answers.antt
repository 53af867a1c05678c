use Rattle.std.proofs.Common.{sym, refl, arith}
use Rattle.hc_framing.specs.ChunkLineReading.{place_of}
use Rattle.hc_framing.proofs.ChunkLineLemmas.{piece_goes, piece_ends, piece_stops}
use Rattle.hc_framing.proofs.chunk_line.ChunkLineReader.feed.Goals as goal

pub returns-in_default-clause-gives : goal.returns-in_default-clause-gives
returns-in_default-clause-gives c = λ octets agrees.
    let here = c.loop-index.invariant octets agrees in
    (refl, piece_stops octets c.args.piece.now c.loop-index.index (place_of c.loop-index.self) (omega arith) here.1 here.0 (sym c.in_default.ensures))

pub returns-in-End-clause-gives : goal.returns-in-End-clause-gives
returns-in-End-clause-gives c = λ octets agrees.
    let here = c.loop-index.invariant octets agrees in
    (omega arith, piece_ends octets c.args.piece.now c.loop-index.index (place_of c.loop-index.self) (omega arith) here.1 (place_of c.in-Some.next) (sym c.in-Some.ensures) c.in-End.is)

pub loop-index-preserved : goal.loop-index-preserved
loop-index-preserved c = λ octets agrees.
    let here = c.loop-index.invariant octets agrees in
    (c.in_default-stage.not-End, piece_goes octets c.args.piece.now c.loop-index.index (place_of c.loop-index.self) (omega arith) here.1 (place_of c.in-Some.next) (sym c.in-Some.ensures))
