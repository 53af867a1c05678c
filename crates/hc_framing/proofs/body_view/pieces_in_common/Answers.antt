use Rattle.std.proofs.Common.{◌≡◌, ◌<◌, ◌≤◌, ◌+◌, ◌-◌, ◌∙◌, List, ℕ, take, length, length-append, ap, arith, rules}
use Rattle.std.specs.List.{flat_map}
use Rattle.hc_framing.specs.Pieces.{piece_at}
use Rattle.hc_framing.proofs.PieceLemmas.{goes_on, split_off}
use Rattle.hc_framing.proofs.CommonLemmas.{all_in_common, common_within, some_in_common}
use Rattle.hc_framing.proofs.body_view.pieces_in_common.Goals as goal

pub loop-at-preserved : goal.loop-at-preserved
loop-at-preserved c =
    let lt : c.loop-at.at-index < length c.args.pieces.now = omega (arith, c.loop-at-test.true, c.loop-at.auto.at-index-end) in
    goes_on (piece_at c.args.octets.now) c.args.pieces.now c.loop-at.at-index _ c.args.other.now c.loop-at.rest.now c.in-Some.behind.now c.octets_at-piece.result.now lt c.loop-at.invariant c.octets_at-piece.ensures
    (split_off c.octets_at-piece.result.now c.loop-at.rest.now c.in-Some.behind.now c.in-Some.ensures.cases.0 c.in-Some.ensures.cases.1)

pub returns-in_default : goal.returns-in_default
returns-in_default c =
    let lt : c.loop-at.at-index < length c.args.pieces.now = omega (arith, c.loop-at-test.true, c.loop-at.auto.at-index-end) in
    ap (λ (n : ℕ). (length c.args.other.now - length c.loop-at.rest.now) + n) c.octets_in_common.ensures
    ∙ some_in_common (piece_at c.args.octets.now) c.args.pieces.now c.loop-at.at-index c.args.other.now c.loop-at.rest.now c.loop-at.invariant _ c.octets_at-piece.result.now lt c.octets_at-piece.ensures c.in_default.ensures.cases

pub returns : goal.returns
returns c = all_in_common (piece_at c.args.octets.now) c.args.pieces.now c.loop-at.at-index c.args.other.now c.loop-at.rest.now c.loop-at.invariant c.loop-at-test.false

pub overflow_add-result : goal.overflow_add-result
overflow_add-result c =
    let octets = c.args.other.now in
    let rest = c.loop-at.rest.now in
    let front = flat_map (piece_at c.args.octets.now) (take c.loop-at.at-index c.args.pieces.now) in
    let all : length octets ≡ length front + length rest = ap (λ (o : List ℕ). length o) c.loop-at.invariant ∙ length-append front rest in
    let sum : (length octets - length rest) + c.octets_in_common.result ≤ length octets =
    omega (arith, all, c.octets_in_common.ensures, common_within c.octets_at-piece.result.now rest) in
    search rules
