use Rattle.std.proofs.Common.{◌≡◌, ℕ, List, length, map}
use Rattle.hc_fields.specs.Values.{values_of}
use Rattle.hc_fields.specs.Views.{line_at}
use Rattle.hc_fields.proofs.views.first_lent.Given as goal

-- the lines passed over don't have the name
abbrev pub invariant-loop-span : goal.invariant-loop-span
invariant-loop-span l = (octets : List ℕ)
    → values_of l.name (map (line_at l.names octets) l.spans) ≡ values_of l.name (map (line_at l.names octets) l.initial.spans)

abbrev pub decreases-loop-span : goal.decreases-loop-span
decreases-loop-span l = length l.spans
