use Rattle.std.proofs.Common.{refl, arith}
use Rattle.hc_framing.specs.declared.framing_reader.FramingStage.TheVariants as at
use Rattle.hc_framing.proofs.BodyLemmas.{at_stage, carriage_return_breaks, framing_taken, line_feed_awaited}
use Rattle.hc_framing.proofs.framing_reader.FramingReader.take_carriage_return.Goals as goal

pub returns-then-piece-ne13 : goal.returns-then-piece-ne13
returns-then-piece-ne13 c = λ framing octets body agrees.
    let a = at_stage framing c.args.self.now octets body at.CarriageReturn c.requires.stage agrees in
    (a.0, carriage_return_breaks c.args.self.now octets body c.args.piece.now a.2 a.1 c.requires.some c.if-piece-ne13.true)

pub returns : goal.returns
returns c = λ framing octets body agrees.
    let a = at_stage framing c.args.self.now octets body at.CarriageReturn c.requires.stage agrees in
    framing_taken c.framing_octets.result framing _ octets body c.args.piece.now 1 c.framing_octets.ensures (omega arith) (omega (arith, c.requires.some))
    (a.0, line_feed_awaited c.args.self.now _ octets body c.args.piece.now a.2 a.1 c.requires.some c.if-piece-ne13.false refl)
