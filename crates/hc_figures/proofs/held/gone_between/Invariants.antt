use Rattle.std.proofs.Common.{◌≡◌, ◌≤◌, ◌+◌, ◌-◌, ◌^◌, min}
use Rattle.serde_json.specs.View.{members_view}
use Rattle.hc_figures.specs.Reports.{count_under, gone_of}
use Rattle.hc_figures.proofs.held.gone_between.Given as goal

-- how many are gone so far, and of those that are left, are all
abbrev pub invariant-loop-kind : goal.invariant-loop-kind
invariant-loop-kind l =
    (goal.iterator-loop-kind).can_next l.kind-iterator ×
    (goal.iterator-loop-kind).is_finite l.kind-iterator ×
    (min (gone_of (members_view l.had.entries) (λ kind. count_under kind (members_view l.counted.entries)) (members_view l.had.entries)) (2 ^ 64 - 1)
    ≡ min (l.gone + gone_of (members_view l.had.entries) (λ kind. count_under kind (members_view l.counted.entries)) (members_view l.kind-iterator)) (2 ^ 64 - 1)) ×
    (l.gone ≤ 2 ^ 64 - 1)
