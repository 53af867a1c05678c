use Rattle.std.proofs.Common.{ℕ, ◌+◌, ◌++◌, length, take, refl, arith, ap, sym, subst, ◌∙◌}
use Rattle.hc_framing.specs.declared.fault.FrameFault.{FrameFault}
use Rattle.hc_framing.specs.declared.framing.Framing.{Framing}
use Rattle.hc_framing.specs.ChunkFaults.{of_chunk}
use Rattle.hc_framing.specs.declared.framing_reader.FramingStage.TheVariants as at
use Rattle.hc_framing.specs.ChunkLines.{BeginsChunkLine}
use Rattle.hc_framing.specs.Bodies.{SaysTooLong}
use Rattle.hc_framing.specs.BodyReading.{AgreesFraming, FaultsBody}
use Rattle.hc_framing.proofs.BodyLemmas.{at_stage, in_stage, framing_taken, line_breaks, says_too_long, line_goes_on, line_takes_some, data_begins, trailer_begins, whole_piece}
use Rattle.hc_framing.proofs.framing_reader.FramingReader.take_line.Goals as goal

pub returns-in-Err : goal.returns-in-Err
returns-in-Err c = λ framing octets body agrees.
    let a = at_stage framing c.args.self.now octets body at.Line c.requires.stage agrees in
    let gives = c.in-Err.ensures.gives a.1.last a.1.line in
    subst (λ (f : FrameFault). FaultsBody f framing (octets ++ c.args.piece.now)) (sym (c.from.ensures ∙ ap of_chunk gives.0)) (a.0, line_breaks a.1.chunks octets a.1.last c.args.piece.now a.1.are gives.1)

pub returns-in-Ok-None : goal.returns-in-Ok-None
returns-in-Ok-None c = λ framing octets body agrees.
    let a = at_stage framing c.args.self.now octets body at.Line c.requires.stage agrees in
    let gives = rw c.in-Ok-None.field-0-is at (c.in-Ok-None.ensures.gives a.1.last a.1.line) in
    let s = record c.args.self.now { line = c.feed.new.self } in
    framing_taken c.framing_octets.result framing s octets body c.args.piece.now (length c.args.piece.now) c.framing_octets.ensures c.requires.some (omega arith)
    (whole_piece (λ o. AgreesFraming framing s o body) octets c.args.piece.now
    (in_stage framing s (octets ++ c.args.piece.now) body at.Line c.requires.stage (a.0, line_goes_on c.args.self.now s octets body c.args.piece.now a.1 refl gives)))

pub returns-then-size-eq0 : goal.returns-then-size-eq0
returns-then-size-eq0 c = λ framing octets body agrees.
    let a = at_stage framing c.args.self.now octets body at.Line c.requires.stage agrees in
    let gives = rw c.in-Ok-Some.field-0-is at (c.in-Ok-Some.ensures.gives a.1.last a.1.line) in
    let line = subst (λ (n : ℕ). BeginsChunkLine (a.1.last ++ take c.in-Ok-Some.used c.args.piece.now) n (length a.1.last + c.in-Ok-Some.used)) c.if-size-eq0.true gives.1 in
    framing_taken c.framing_octets-then-size-eq0.result framing _ octets body c.args.piece.now c.in-Ok-Some.used c.framing_octets-then-size-eq0.ensures
    (line_takes_some c.args.self.now octets body c.args.piece.now c.in-Ok-Some.size c.in-Ok-Some.used a.1 gives.1) gives.0
    (a.0, trailer_begins c.args.self.now _ octets body c.args.piece.now c.in-Ok-Some.used a.1 gives.0 line c.new.ensures)

pub returns-then-size-saturating_sub : goal.returns-then-size-saturating_sub
returns-then-size-saturating_sub c = λ framing octets body agrees.
    let a = at_stage framing c.args.self.now octets body at.Line c.requires.stage agrees in
    let gives = rw c.in-Ok-Some.field-0-is at (c.in-Ok-Some.ensures.gives a.1.last a.1.line) in
    subst (λ (f : Framing). SaysTooLong f (octets ++ c.args.piece.now)) (sym a.0)
    (says_too_long c.args.self.now octets body c.args.piece.now c.in-Ok-Some.size c.in-Ok-Some.used a.1 gives.0 gives.1 (omega (arith, c.if-size-saturating_sub.true, c.saturating_sub.ensures)))

pub returns-else-size-saturating_sub : goal.returns-else-size-saturating_sub
returns-else-size-saturating_sub c = λ framing octets body agrees.
    let a = at_stage framing c.args.self.now octets body at.Line c.requires.stage agrees in
    let gives = rw c.in-Ok-Some.field-0-is at (c.in-Ok-Some.ensures.gives a.1.last a.1.line) in
    framing_taken c.framing_octets-in-Ok-Some.result framing _ octets body c.args.piece.now c.in-Ok-Some.used c.framing_octets-in-Ok-Some.ensures
    (line_takes_some c.args.self.now octets body c.args.piece.now c.in-Ok-Some.size c.in-Ok-Some.used a.1 gives.1) gives.0 (
      a.0,
      omega (arith, c.if-size-eq0.false),
      data_begins c.args.self.now _ octets body c.args.piece.now c.in-Ok-Some.size c.in-Ok-Some.used a.1 gives.0 gives.1 c.if-size-eq0.false
          (omega (arith, c.if-size-saturating_sub.false, c.saturating_sub.ensures)) refl refl,
    )
