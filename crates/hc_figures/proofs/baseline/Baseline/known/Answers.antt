use Rattle.std.proofs.Common.{◌≡◌, ap, arith}
use Rattle.serde_json.specs.View.{members_view}
use Rattle.hc_figures.specs.Reports.{known_of}
use Rattle.hc_figures.specs.Tallies.{base_of}
use Rattle.hc_figures.proofs.baseline.Baseline.known.Goals as goal

pub returns : goal.returns
returns c =
    let all = c.loop-kind.invariant.2 in
    let most = c.loop-kind.invariant.3 in
    let counts = members_view c.args.tally.now.counts.entries in
    let none : known_of (base_of c.args.self.now) counts (members_view c.loop-kind.kind-iterator) ≡ 0 =
    ap (λ es. known_of (base_of c.args.self.now) counts (members_view es)) c.in-None.ensures.steps.0 in
    omega (arith, all, most, none)
