use Rattle.std.proofs.Common.{◌<◌, length, arith}
use Rattle.std.proofs.lemmas.Bool.{false≢true}
use Rattle.hc_framing.specs.Pieces.{piece_at}
use Rattle.hc_framing.proofs.PieceLemmas.{goes_on, split_off, stops}
use Rattle.hc_framing.proofs.body_view.equal_pieces.Goals as goal

pub returns-in_default : goal.returns-in_default
returns-in_default c =
    let lt : c.loop-at.at-index < length c.args.pieces.now = omega (arith, c.loop-at-test.true, c.loop-at.auto.at-index-end) in (
      (λ e. absurd (false≢true e)),
      (λ all. stops (piece_at c.args.octets.now) c.args.pieces.now c.loop-at.at-index _ c.args.other.now c.loop-at.rest.now c.octets_at.result.now lt c.loop-at.invariant c.octets_at.ensures c.in_default.ensures.cases all),
    )

pub loop-at-preserved : goal.loop-at-preserved
loop-at-preserved c =
    let lt : c.loop-at.at-index < length c.args.pieces.now = omega (arith, c.loop-at-test.true, c.loop-at.auto.at-index-end) in
    goes_on (piece_at c.args.octets.now) c.args.pieces.now c.loop-at.at-index _ c.args.other.now c.loop-at.rest.now c.in-Some.behind.now c.octets_at.result.now lt c.loop-at.invariant c.octets_at.ensures
    (split_off c.octets_at.result.now c.loop-at.rest.now c.in-Some.behind.now c.in-Some.ensures.cases.0 c.in-Some.ensures.cases.1)
