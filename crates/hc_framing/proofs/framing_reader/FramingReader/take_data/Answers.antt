use Rattle.std.proofs.Common.{refl, arith, length, ◌++◌, take}
use Rattle.hc_framing.specs.declared.framing_reader.FramingStage.TheVariants as at
use Rattle.hc_framing.proofs.BodyLemmas.{at_stage, in_stage, data_taken, takes_some}
use Rattle.hc_framing.proofs.framing_reader.FramingReader.take_data.Goals as goal

pub returns-then-self-eq0 : goal.returns-then-self-eq0
returns-then-self-eq0 c = λ framing octets body agrees.
    let a = at_stage framing c.args.self.now octets body at.Data c.requires.stage agrees in
    let some = takes_some c.min-taken.result (length c.args.piece.now) c.args.self.now.left c.min-taken.ensures c.requires.some a.1 in (
      some.1,
      omega arith,
      (some.0, (a.0, c.if-self-eq0.true, data_taken c.args.self.now _ octets body c.args.piece.now c.min-taken.result a.2 c.min-taken.ensures refl refl)),
    )

pub returns-else-self-eq0 : goal.returns-else-self-eq0
returns-else-self-eq0 c = λ framing octets body agrees.
    let a = at_stage framing c.args.self.now octets body at.Data c.requires.stage agrees in
    let some = takes_some c.min-taken.result (length c.args.piece.now) c.args.self.now.left c.min-taken.ensures c.requires.some a.1 in
    let taken = take c.min-taken.result c.args.piece.now in (
      some.1,
      omega arith,
      (
        some.0,
        in_stage framing _ (octets ++ taken) (body ++ taken) at.Data c.requires.stage
            (a.0, omega (arith, c.if-self-eq0.false), data_taken c.args.self.now _ octets body c.args.piece.now c.min-taken.result a.2 c.min-taken.ensures refl refl),
      ),
    )
