use Rattle.std.proofs.Common.{◌∙◌, ap, drop, ◌++◌, ℕ}
use Rattle.hc_flow.proofs.PieceLemmas.{drop_parts}
use Rattle.hc_flow.proofs.pieces.both_behind.Goals as goal

pub returns : goal.returns
returns c =
    (λ i. c.behind.ensures i ++ c.behind-2.ensures i) ∙ ap (λ (n : ℕ). drop c.args.count c.args.front.now ++ drop n c.args.rest.now) c.saturating_sub-more.ensures
    ∙ drop_parts c.args.count c.args.front.now c.args.rest.now
