use Rattle.std.proofs.Common.{◌≡◌}
use Rattle.std.specs.Prelude.{codes}
use Rattle.std.specs.List.{list_any}
use Rattle.hc_fields.specs.Lists.{members_of}
use Rattle.hc_gaps.specs.Forms.{has_argument}
use Rattle.hc_gaps.proofs.forms.is_said.Given as goal

-- no member that was passed over has an argument
abbrev pub invariant-loop-member : goal.invariant-loop-member
invariant-loop-member l =
    list_any (has_argument l.directive) l.member-iterator ≡ list_any (has_argument l.directive) (members_of (codes "cache-control") l.response)
