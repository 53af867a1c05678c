use Rattle.std.proofs.Common.{◌≡◌}
use Rattle.serde_json.specs.View.{members_view}
use Rattle.hc_figures.specs.Reports.{covers}
use Rattle.hc_figures.specs.Tallies.{base_of}
use Rattle.hc_figures.proofs.baseline.Baseline.covers_all.Given as goal

-- whether all are covered is whether those that are left are
abbrev pub invariant-loop-kind : goal.invariant-loop-kind
invariant-loop-kind l =
    (goal.iterator-loop-kind).can_next l.kind-iterator ×
    (goal.iterator-loop-kind).is_finite l.kind-iterator ×
    (covers (base_of l.self) (members_view l.counts.entries) (members_view l.counts.entries)
    ≡ covers (base_of l.self) (members_view l.counts.entries) (members_view l.kind-iterator))
