use Rattle.std.proofs.Common.{◌≡◌, length}
use Rattle.hc_fields.specs.Lists.{list_members}
use Rattle.hc_fields.proofs.lists.split_first_member.Given as goal

-- the pieces passed over are empty
abbrev pub invariant-loop-value : goal.invariant-loop-value
invariant-loop-value l = list_members l.value ≡ list_members l.initial.value

abbrev pub decreases-loop-value : goal.decreases-loop-value
decreases-loop-value l = length l.value
