use Rattle.std.proofs.Common.{◌≡◌}
use Rattle.std.specs.List.{list_all}
use Rattle.hc_rules.specs.Selecting.{is_met, selects}
use Rattle.hc_rules.proofs.selecting.selects_in.Given as goal

-- whether the members that are left are met decides
abbrev pub invariant-loop-member : goal.invariant-loop-member
invariant-loop-member l = list_all (is_met l.forwarded l.presented) l.member-iterator ≡ selects l.fields l.forwarded l.presented
