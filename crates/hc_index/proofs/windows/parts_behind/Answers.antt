use Rattle.std.proofs.Common.{◌≡◌, ◌-◌, ◌++◌, min, length, drop, rules, ap, ◌∙◌}
use Rattle.hc_index.proofs.PoolLemmas.{drop_in_parts}
use Rattle.hc_index.proofs.windows.parts_behind.Goals as goal

pub returns : goal.returns
returns c =
    let older = c.as_slices.result.0.now in
    let newer = c.as_slices.result.1.now in
    let first : c.min.result ≡ min c.args.before (length older) = search rules in
    let second : c.min-more.result ≡ min (c.args.before - length older) (length newer) = search rules in
    (λ i. (c.split_at.ensures.back ∙ ap (λ n. drop n older) first) i ++ (c.split_at-2.ensures.back ∙ ap (λ n. drop n newer) second) i)
    ∙ drop_in_parts c.args.before older newer
    ∙ ap (drop c.args.before) c.as_slices.ensures.items
