use Rattle.std.proofs.Common.{◌+◌, subst, sym, arith, ◌++◌, take, length, drop, append-nil, List, ℕ}
use Rattle.hc_framing.specs.declared.framing_reader.FramingStage.TheVariants as at
use Rattle.hc_framing.specs.declared.framing.Framing.{Framing}
use Rattle.hc_framing.specs.Messages.{BeginsBody}
use Rattle.hc_framing.specs.declared.fault.FrameFault.{FrameFault}
use Rattle.hc_framing.specs.BodyReading.{AgreesFraming, FaultsBody}
use Rattle.hc_framing.proofs.BodyLemmas.{at_stage, in_stage, framing_taken, trailer_faults, trailer_goes_on, trailer_ends, whole_piece}
use Rattle.hc_framing.proofs.framing_reader.FramingReader.take_trailer.Goals as goal

pub returns-in-Err : goal.returns-in-Err
returns-in-Err c = λ framing octets body agrees.
    let a = at_stage framing c.args.self.now octets body at.Trailer c.requires.stage agrees in
    subst (λ (f : FrameFault). FaultsBody f framing (octets ++ c.args.piece.now)) (sym c.from.ensures)
    (trailer_faults c.args.self.now c.feed.new.self octets body c.args.piece.now framing c.in-Err.fault a.0 a.1 (c.in-Err.ensures (drop a.1.len a.1.last) a.1.trailer))

pub returns-in-Ok-None : goal.returns-in-Ok-None
returns-in-Ok-None c = λ framing octets body agrees.
    let a = at_stage framing c.args.self.now octets body at.Trailer c.requires.stage agrees in
    let gives = rw c.in-Ok-None.field-0-is at (c.in-Ok-None.ensures (drop a.1.len a.1.last) a.1.trailer) in
    let s = record c.args.self.now { trailer = c.feed.new.self } in
    framing_taken c.framing_octets.result framing s octets body c.args.piece.now (length c.args.piece.now) c.framing_octets.ensures c.requires.some (omega arith)
    (whole_piece (λ o. AgreesFraming framing s o body) octets c.args.piece.now
    (in_stage framing s (octets ++ c.args.piece.now) body at.Trailer c.requires.stage (a.0, trailer_goes_on c.args.self.now s octets body c.args.piece.now a.1 gives)))

pub returns-in-Ok-Some : goal.returns-in-Ok-Some
returns-in-Ok-Some c = λ framing octets body agrees.
    let a = at_stage framing c.args.self.now octets body at.Trailer c.requires.stage agrees in
    let gives = rw c.in-Ok-Some.field-0-is at (c.in-Ok-Some.ensures (drop a.1.len a.1.last) a.1.trailer) in (
      gives.0,
      omega arith,
      subst (λ (x : Framing × List ℕ). BeginsBody x.0 (octets ++ take c.in-Ok-Some.used c.args.piece.now) x.1 (length octets + c.in-Ok-Some.used))
          (λ i. (sym a.0 i, sym (append-nil body) i)) (trailer_ends c.args.self.now octets body c.args.piece.now c.in-Ok-Some.used a.1 gives.0 gives.1),
    )
