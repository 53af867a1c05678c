use Rattle.std.proofs.Common.{◌≡◌, ◌+◌, ap, sym, ◌∙◌, length, arith}
use Rattle.hc_flow.specs.Pieces.{all_of}
use Rattle.hc_flow.specs.Weights.{joined_in, size_of}
use Rattle.hc_flow.proofs.WeightLemmas.{all_size, joined_append, size_append}
use Rattle.hc_flow.proofs.weight.weight_of_all.Goals as goal

pub returns-clause-all : goal.returns-clause-all
returns-clause-all c =
    let first = c.weight_of_pieces.ensures.all in
    let second = c.weight_of_pieces-2.ensures.all in
    let parts = c.as_slices.result in
    let sizes : length (all_of c.args.pieces.now.items c.args.tail.now) ≡ (size_of parts.0.now + size_of parts.1.now) + length c.args.tail.now =
    all_size c.args.pieces.now.items c.args.tail.now
    ∙ ap (λ n. n + length c.args.tail.now) (ap size_of (sym c.as_slices.ensures.items) ∙ size_append parts.0.now parts.1.now) in
    let sum = c.saturating_add.ensures in
    let all = c.saturating_add-2.ensures in record {
      most = omega (arith, sizes, sum, all, first.most, second.most);
      some = omega (arith, sizes, sum, all, first.some, second.some);
    }

pub returns-clause-own : goal.returns-clause-own
returns-clause-own c =
    let parts = c.as_slices.result in
    let joined = ap joined_in (sym c.as_slices.ensures.items) ∙ joined_append parts.0.now parts.1.now in
    omega (arith, joined, c.saturating_add.ensures, c.saturating_add-2.ensures, c.weight_of_pieces.ensures.own, c.weight_of_pieces-2.ensures.own)
