use Rattle.std.proofs.Common.{List, ℕ, ◌-◌, ◌++◌, ap, sym, subst, ◌∙◌, take, drop, arith, Result, Err}
use Rattle.std.specs.List.{flat_map}
use Rattle.std.proofs.lemmas.Result.{err_from_is_err_and}
use Rattle.hc_framing.specs.declared.fault.FrameFault.{FrameFault}
use Rattle.hc_framing.specs.Pieces.{piece_at}
use Rattle.hc_framing.specs.BodyReading.{AgreesFraming, FaultsBody}
use Rattle.hc_framing.specs.WholeParts.{noted, GivesWholeBody}
use Rattle.hc_framing.proofs.BodyLemmas.{framing_is_open}
use Rattle.hc_framing.proofs.NotingLemmas.{faults_noted, all_come, parts_of, noted_on, noted_before, noted_whole}
use Rattle.hc_framing.proofs.noting.note_parts.Goals.{then-at-octets, else-at-octets}
use Rattle.hc_framing.proofs.noting.note_parts.Goals as goal

pub returns-in_err-part-clause-gives : goal.returns-in_err-part-clause-gives
returns-in_err-part-clause-gives c =
    let octets = c.args.octets.now in
    let body = flat_map (piece_at octets) c.loop-at.pieces.items in
    let fault = c.in_err-part.field-0.0 in
    let faults : FaultsBody fault c.args.framing (take (c.loop-at.at - c.args.from) (drop c.args.from octets) ++ c.split_at.result.1.now) =
    c.in_err-part.ensures.gives c.args.framing (take (c.loop-at.at - c.args.from) (drop c.args.from octets)) body c.loop-at.invariant.agrees in
    let same = err_from_is_err_and c.from_residual.result c.from_residual.ensures.1 in
    faults_noted c.from_residual.result fault c.args.framing (drop c.args.from octets) body (same.1 ∙ ap (λ (f : FrameFault). Err f) same.2)
    (subst (λ (o : List ℕ). FaultsBody fault c.args.framing o) (parts_of octets c.args.from c.loop-at.at c.loop-at.invariant.behind c.split_at.result.1.now c.split_at.ensures.back) faults)

pub loop-at-preserved : goal.loop-at-preserved
loop-at-preserved c =
    let octets = c.args.octets.now in
    let body = flat_map (piece_at octets) c.loop-at.pieces.items in
    record {
      behind = omega (arith, c.loop-at.invariant.behind);
      agrees =
          noted_on octets c.args.from c.loop-at.at c.loop-at.invariant.behind c.args.framing c.step.new.self body
          (flat_map (piece_at octets) c.note_piece.new.pieces.items) c.split_at.result.1.now c.in_ok-part.part c.split_at.ensures.back c.loop-at-test.true
          (c.in_ok-note_piece.ensures.ok octets)
          (c.in_ok-part.ensures.gives c.args.framing (take (c.loop-at.at - c.args.from) (drop c.args.from octets)) body c.loop-at.invariant.agrees)
          c.if-part.false;
      ordered = c.in_ok-note_piece.ensures.ordered;
      before = omega (arith, c.in_ok-note_piece.ensures.within, (c.in_ok-part.ensures.gives c.args.framing (take (c.loop-at.at - c.args.from) (drop c.args.from octets)) body c.loop-at.invariant.agrees).1);
    }

pub returns-then-part-clause-gives : goal.returns-then-part-clause-gives
returns-then-part-clause-gives c =
    let octets = c.args.octets.now in
    let body = flat_map (piece_at octets) c.loop-at.pieces.items in
    let kept = flat_map (piece_at octets) c.note_piece.new.pieces.items in
    let gives = c.in_ok-part.ensures.gives c.args.framing (take (c.loop-at.at - c.args.from) (drop c.args.from octets)) body c.loop-at.invariant.agrees in
    elim c.if-at-octets.branch [
      | then-at-octets w ↦ subst (λ (r : Result (Unit {0}) FrameFault). GivesWholeBody (noted r kept) c.args.framing (drop c.args.from octets)) (sym w.result-is)
          (noted_before octets c.args.from c.loop-at.at c.loop-at.invariant.behind c.args.framing c.step.new.self body kept c.split_at.result.1.now
          c.in_ok-part.part c.split_at.ensures.back c.loop-at-test.true (c.in_ok-note_piece.ensures.ok octets) gives c.if-part.true w.if-at-octets.true)
      | else-at-octets w ↦ subst (λ (r : Result (Unit {0}) FrameFault). GivesWholeBody (noted r kept) c.args.framing (drop c.args.from octets)) (sym w.result-is)
          (noted_whole octets c.args.from c.loop-at.at c.loop-at.invariant.behind c.args.framing c.step.new.self body kept c.split_at.result.1.now
          c.in_ok-part.part c.split_at.ensures.back c.loop-at-test.true (c.in_ok-note_piece.ensures.ok octets) gives c.if-part.true w.if-at-octets.false)
    ]

pub returns-clause-gives : goal.returns-clause-gives
returns-clause-gives c =
    let octets = c.args.octets.now in
    let body = flat_map (piece_at octets) c.loop-at.pieces.items in
    let agrees : AgreesFraming c.args.framing c.loop-at.reader (drop c.args.from octets) body =
    subst (λ (o : List ℕ). AgreesFraming c.args.framing c.loop-at.reader o body)
    (all_come octets c.args.from c.loop-at.at c.loop-at.invariant.behind c.loop-at-test.false) c.loop-at.invariant.agrees in (
      framing_is_open c.args.framing c.loop-at.reader (drop c.args.from octets) body agrees,
      c.ends_with_close.ensures.no c.if-ends_with_close.false c.args.framing (drop c.args.from octets) body agrees,
    )
