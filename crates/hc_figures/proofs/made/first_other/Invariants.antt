use Rattle.std.proofs.Common.{◌≡◌}
use Rattle.serde_json.specs.View.{members_view}
use Rattle.hc_figures.specs.Made.{has_settings}
use Rattle.hc_figures.proofs.made.first_other.Given as goal

-- whether all are there is whether those that are left are
abbrev pub invariant-loop-name : goal.invariant-loop-name
invariant-loop-name l =
    (goal.iterator-loop-name).can_next l.name-iterator ×
    (goal.iterator-loop-name).is_finite l.name-iterator ×
    (has_settings (members_view l.had.entries) (members_view l.asked.entries)
    ≡ has_settings (members_view l.had.entries) (members_view l.name-iterator))
