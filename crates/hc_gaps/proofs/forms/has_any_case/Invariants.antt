use Rattle.std.proofs.Common.{◌≡◌, length}
use Rattle.hc_gaps.specs.Forms.{has_any_case}
use Rattle.hc_gaps.proofs.forms.has_any_case.Given as goal

-- no line that was passed over has that name
abbrev pub invariant-loop-one : goal.invariant-loop-one
invariant-loop-one l = has_any_case l.name l.rest ≡ has_any_case l.name l.initial.rest

abbrev pub decreases-loop-one : goal.decreases-loop-one
decreases-loop-one l = length l.rest
