use Rattle.std.proofs.Common.{◌≡◌, Some}
use Rattle.serde_json.specs.View.{members_view}
use Rattle.hc_figures.specs.Reports.{plus, sum_of}
use Rattle.hc_figures.proofs.tally.sum_of.Given as goal

-- the sum so far, and that of the members that are left, are that of all
abbrev pub invariant-loop-kind : goal.invariant-loop-kind
invariant-loop-kind l =
    (goal.iterator-loop-kind).can_next l._kind-iterator ×
    (goal.iterator-loop-kind).is_finite l._kind-iterator ×
    (sum_of (members_view l.counts.entries) ≡ plus (Some l.sum) (sum_of (members_view l._kind-iterator)))
