use Rattle.std.proofs.Common.{◌≡◌, ◌&&◌}
use Rattle.std.specs.List.{list_any}
use Rattle.hc_gaps.specs.Forms.{has_any_case, names_common}
use Rattle.hc_gaps.proofs.forms.names_common.Given as goal

-- no name that was passed over is one of both
abbrev pub invariant-loop-named : goal.invariant-loop-named
invariant-loop-named l =
    list_any (λ named. has_any_case named l.response && has_any_case named l.reply) l.named-iterator
    ≡ names_common l.directive l.response l.reply l.member
