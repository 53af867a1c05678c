use Rattle.std.proofs.Common.{◌≤◌, ◌<◌, ◌+◌, length, arith, rules}
use Rattle.std.proofs.lemmas.List.{take_all}
use Rattle.hc_framing.proofs.OrderLemmas.{few, few_first}
use Rattle.hc_framing.proofs.body_view.pieces_len.Goals as goal

pub overflow_add-total : goal.overflow_add-total
overflow_add-total c =
    let octets = c.args.octets.now in
    let lt : c.loop-at.at-index < length c.args.pieces.now = omega (arith, c.loop-at-test.true, c.loop-at.auto.at-index-end) in
    let sum : c.loop-at.total + length c.octets_at.result.now ≤ length octets =
    rw (c.loop-at.invariant, c.octets_at.ensures) (few_first octets c.loop-at.at-index c.args.pieces.now _ c.requires lt) in
    search rules

pub returns-clause-few : goal.returns-clause-few
returns-clause-few c =
    rw (c.loop-at.invariant, take_all c.loop-at.at-index c.args.pieces.now c.loop-at-test.false) (few c.args.octets.now c.args.pieces.now c.requires)
