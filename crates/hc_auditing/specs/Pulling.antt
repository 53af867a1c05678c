-- What was read of an input, and fed.
use Rattle.std.specs.Prelude.{◌≡◌, ◌≤◌, ℕ, List, [], Option, None, Some, length, take}
use Rattle.std.specs.Io.KnownBytes.{Consumes, IsAtEnd}

-- the input was at its end, or it gave the first octets of the piece, so many
abbrev pub IsNextPiece : Option (List ℕ) → Option (List ℕ) → List ℕ → Option ℕ → Type 0
IsNextPiece old new piece None = IsAtEnd new × Consumes old new []
IsNextPiece old new piece (Some count) = (count ≤ length piece) × Consumes old new (take count piece)

-- the octets that the input gave led what is fed, and who is told, from the first states to the last ones, and to that answer, if any
pub record IsPulled {F T A : Type 0} (goes : F → T → F → T → List ℕ → Option A → Type 0) (first : F) (before : T) (last : F) (after : T) (old new : Option (List ℕ)) (answer : Option A) : Type 0 where
  pub octets : List ℕ
  pub goes_by : goes first before last after octets answer
  pub consumed : Consumes old new octets
