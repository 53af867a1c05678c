use Rattle.std.proofs.Common.{◌≡◌, ap, arith}
use Rattle.serde_json.specs.View.{members_view}
use Rattle.hc_figures.specs.Reports.{count_under, gone_of}
use Rattle.hc_figures.proofs.held.gone_between.Goals as goal

pub returns : goal.returns
returns c =
    let all = c.loop-kind.invariant.2 in
    let most = c.loop-kind.invariant.3 in
    let had = members_view c.args.had.now.entries in
    let counted = members_view c.args.counted.now.entries in
    let none : gone_of had (λ kind. count_under kind counted) (members_view c.loop-kind.kind-iterator) ≡ 0 =
    ap (λ es. gone_of had (λ kind. count_under kind counted) (members_view es)) c.in-None.ensures.steps.0 in
    omega (arith, all, most, none)
