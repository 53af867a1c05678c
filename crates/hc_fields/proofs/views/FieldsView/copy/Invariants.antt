use Rattle.std.proofs.Common.{◌≡◌, ◌++◌, length}
use Rattle.hc_fields.proofs.views.FieldsView.copy.Given as goal

-- the lines that were passed over were copied
abbrev pub invariant-loop-name : goal.invariant-loop-name
invariant-loop-name l = l.copies ++ l.rest ≡ l.initial.copies ++ l.initial.rest

abbrev pub decreases-loop-name : goal.decreases-loop-name
decreases-loop-name l = length l.rest
