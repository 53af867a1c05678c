use Rattle.std.proofs.Common.{◌≡◌, ◌≤◌, ◌+◌, ◌-◌, ◌^◌, min}
use Rattle.serde_json.specs.View.{members_view}
use Rattle.hc_figures.specs.Reports.{known_of}
use Rattle.hc_figures.specs.Tallies.{base_of}
use Rattle.hc_figures.proofs.baseline.Baseline.known.Given as goal

-- how many are known so far, and of those that are left, are all
abbrev pub invariant-loop-kind : goal.invariant-loop-kind
invariant-loop-kind l =
    (goal.iterator-loop-kind).can_next l.kind-iterator ×
    (goal.iterator-loop-kind).is_finite l.kind-iterator ×
    (min (known_of (base_of l.self) (members_view l.tally.counts.entries) (members_view l.tally.counts.entries)) (2 ^ 64 - 1)
    ≡ min (l.known + known_of (base_of l.self) (members_view l.tally.counts.entries) (members_view l.kind-iterator)) (2 ^ 64 - 1)) ×
    (l.known ≤ 2 ^ 64 - 1)
