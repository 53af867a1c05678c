use Rattle.std.proofs.Common.{◌≡◌, ◌++◌, length}
use Rattle.hc_fields.specs.Values.{values_of}
use Rattle.hc_fields.specs.Lists.{members_of}
use Rattle.hc_fields.proofs.members.MembersIterator.next.Given as goal

-- no line that was passed over has a member left
abbrev pub invariant-loop-member : goal.invariant-loop-member
invariant-loop-member l =
    l.self-inside.line ++ members_of l.self-inside.values.name.now l.self-inside.values.lines
    ≡ l.initial.self-inside.line ++ members_of l.initial.self-inside.values.name.now l.initial.self-inside.values.lines

abbrev pub decreases-loop-member : goal.decreases-loop-member
decreases-loop-member l = length (values_of l.self-inside.values.name.now l.self-inside.values.lines)
