use Rattle.std.proofs.Common.{refl, arith}
use Rattle.hc_framing.specs.declared.framing_reader.FramingStage.TheVariants as at
use Rattle.hc_framing.proofs.BodyLemmas.{at_stage, line_feed_breaks, framing_taken, next_line}
use Rattle.hc_framing.proofs.framing_reader.FramingReader.take_line_feed.Goals as goal

pub returns-then-piece-ne10 : goal.returns-then-piece-ne10
returns-then-piece-ne10 c = λ framing octets body agrees.
    let a = at_stage framing c.args.self.now octets body at.LineFeed c.requires.stage agrees in
    (a.0, line_feed_breaks c.args.self.now octets body c.args.piece.now a.1 c.requires.some c.if-piece-ne10.true)

pub returns : goal.returns
returns c = λ framing octets body agrees.
    let a = at_stage framing c.args.self.now octets body at.LineFeed c.requires.stage agrees in
    framing_taken c.framing_octets.result framing _ octets body c.args.piece.now 1 c.framing_octets.ensures (omega arith) (omega (arith, c.requires.some))
    (a.0, next_line c.args.self.now _ octets body c.args.piece.now a.1 c.requires.some c.if-piece-ne10.false refl c.new-self.ensures)
