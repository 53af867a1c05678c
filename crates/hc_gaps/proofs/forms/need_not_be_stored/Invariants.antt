use Rattle.std.proofs.Common.{◌≡◌, ◌||◌}
use Rattle.std.specs.Prelude.{codes}
use Rattle.std.specs.List.{list_any}
use Rattle.hc_fields.specs.Lists.{members_of}
use Rattle.hc_gaps.specs.Forms.{is_said_of}
use Rattle.hc_gaps.proofs.forms.need_not_be_stored.Given as goal

-- no member that was passed over names the field
abbrev pub invariant-loop-member : goal.invariant-loop-member
invariant-loop-member l =
    list_any (λ member. is_said_of l.name (codes "no-cache") member || is_said_of l.name (codes "private") member) l.member-iterator
    ≡ list_any (λ member. is_said_of l.name (codes "no-cache") member || is_said_of l.name (codes "private") member) (members_of (codes "cache-control") l.response)
