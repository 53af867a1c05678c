use Rattle.std.proofs.Common.{◌≡◌, ◌||◌}
use Rattle.std.specs.Prelude.{codes}
use Rattle.std.specs.List.{list_any}
use Rattle.hc_fields.specs.Lists.{members_of}
use Rattle.hc_gaps.specs.Forms.{is_bare, names_common}
use Rattle.hc_gaps.proofs.forms.leaves_out.Given as goal

-- no member that was passed over is bare, or names a field of both
abbrev pub invariant-loop-member : goal.invariant-loop-member
invariant-loop-member l =
    list_any (λ member. is_bare l.directive member || names_common l.directive l.response l.reply member) l.member-iterator
    ≡ list_any (λ member. is_bare l.directive member || names_common l.directive l.response l.reply member) (members_of (codes "cache-control") l.response)
