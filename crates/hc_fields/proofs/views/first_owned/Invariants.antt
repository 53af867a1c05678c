use Rattle.std.proofs.Common.{◌≡◌, length}
use Rattle.hc_fields.specs.Values.{values_of}
use Rattle.hc_fields.proofs.views.first_owned.Given as goal

-- the lines passed over don't have the name
abbrev pub invariant-loop-first : goal.invariant-loop-first
invariant-loop-first l = values_of l.name l.lines ≡ values_of l.name l.initial.lines

abbrev pub decreases-loop-first : goal.decreases-loop-first
decreases-loop-first l = length l.lines
