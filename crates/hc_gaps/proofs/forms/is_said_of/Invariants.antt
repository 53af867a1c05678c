use Rattle.std.proofs.Common.{◌≡◌}
use Rattle.std.specs.List.{list_any}
use Rattle.std.specs.Str.{str_eq_ignore_ascii_case}
use Rattle.hc_gaps.specs.Forms.{is_said_of}
use Rattle.hc_gaps.proofs.forms.is_said_of.Given as goal

-- none that was passed over is that name
abbrev pub invariant-loop-named : goal.invariant-loop-named
invariant-loop-named l = list_any (λ named. str_eq_ignore_ascii_case named l.name) l.named-iterator ≡ is_said_of l.name l.directive l.member
