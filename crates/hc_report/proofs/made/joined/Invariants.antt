use Rattle.std.proofs.Common.{◌≡◌, [], string_bytes}
use Rattle.serde_json.specs.View.{members_view}
use Rattle.hc_report.specs.Made.{joined}
use Rattle.hc_report.proofs.made.joined.Given as goal

-- those so far, with those that are left behind them, are all
abbrev pub invariant-loop-name : goal.invariant-loop-name
invariant-loop-name l =
    (goal.iterator-loop-name).can_next l.name-iterator ×
    (goal.iterator-loop-name).is_finite l.name-iterator ×
    (joined (string_bytes l.text) (members_view l.name-iterator) ≡ joined [] (members_view l.members.entries))
