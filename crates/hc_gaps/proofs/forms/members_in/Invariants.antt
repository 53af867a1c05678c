use Rattle.std.proofs.Common.{◌≡◌, ◌++◌, map}
use Rattle.hc_fields.specs.Lists.{list_members}
use Rattle.hc_gaps.proofs.forms.members_in.Given as goal

-- those so far, and those that are left
abbrev pub invariant-loop-member : goal.invariant-loop-member
invariant-loop-member l = map (λ member. member.now) l.members.items ++ l.member-iterator ≡ list_members l.list
