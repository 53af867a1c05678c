use Rattle.std.proofs.Common.{◌≡◌, ℕ, List, ◌++◌, length}
use Rattle.std.specs.Io.KnownBytes.{Appends}
use Rattle.hc_notices.proofs.voice.put.Given as goal

-- so many were written, and the rest wasn't
abbrev pub invariant-pieces : goal.invariant-pieces
invariant-pieces g l = (said : List ℕ) × (said ++ l.rest ≡ l.initial.rest) × Appends (g.E.Write.contents l.initial.to) (g.E.Write.contents l.to) said

abbrev pub decreases-pieces : goal.decreases-pieces
decreases-pieces g l = length l.rest
