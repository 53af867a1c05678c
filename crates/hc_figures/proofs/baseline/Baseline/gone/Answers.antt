use Rattle.std.proofs.Common.{◌∙◌, ◌-◌, ◌^◌, ℕ, ap, min}
use Rattle.serde_json.specs.View.{members_view, view}
use Rattle.hc_figures.proofs.KindLemmas.{gone_by_kinds}
use Rattle.hc_figures.proofs.baseline.Baseline.gone.Goals as goal

pub returns-clause-kinds : goal.returns-clause-kinds
returns-clause-kinds c = λ kinds counted few.
    c.gone_by.ensures ∙ ap (λ (n : ℕ). min n (2 ^ 64 - 1))
    (gone_by_kinds (view c.args.self.now.report) (members_view c.args.tally.now.counts.entries) kinds counted.are few)
