use Rattle.std.proofs.Common.{◌≡◌}
use Rattle.std.specs.List.{list_all}
use Rattle.hc_history.specs.Allowing.{is_met_or_normalized, selection_is_allowed}
use Rattle.hc_history.proofs.allowing.selection_is_allowed.Given as goal

-- whether the members that are left are met decides
abbrev pub invariant-loop-member : goal.invariant-loop-member
invariant-loop-member l = list_all (is_met_or_normalized l.claim l.state) l.member-iterator ≡ selection_is_allowed l.claim l.state
