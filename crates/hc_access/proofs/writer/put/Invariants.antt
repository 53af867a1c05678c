use Rattle.std.proofs.Common.{length}
use Rattle.hc_access.specs.Writing.{PutsAllBut}
use Rattle.hc_access.proofs.writer.put.Given as goal

-- so many were written, and the rest wasn't
abbrev pub invariant-pieces : goal.invariant-pieces
invariant-pieces g l = PutsAllBut (g.F.Write.contents l.initial.to) (g.F.Write.contents l.to) l.initial.rest l.rest

abbrev pub decreases-pieces : goal.decreases-pieces
decreases-pieces g l = length l.rest
