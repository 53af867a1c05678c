-- The pieces that wait, and the tail behind them.
use Rattle.std.specs.Prelude.{◌≡◌, ℕ, ◌≤◌, List, [], ◌∷◌, ◌++◌, length, drop, Result, Ok, Err}
use Rattle.std.specs.declared.alloc.AllocError.{AllocError}
use Rattle.hc_flow.specs.declared.pieces.Piece.{Piece}
use Rattle.hc_flow.specs.declared.pieces.Piece.TheVariants.{Joined, Shared}

abbrev pub octets_of : Piece → List ℕ
octets_of (Joined octets) = octets.items
octets_of (Shared text) = text

-- the octets of all of them
abbrev pub all_of : List Piece → List ℕ → List ℕ
all_of [] tail = tail
all_of (piece ∷ pieces) tail = octets_of piece ++ all_of pieces tail

-- the octets of the first
abbrev pub first_of : List Piece → List ℕ → List ℕ
first_of [] tail = tail
first_of (piece ∷ pieces) tail = octets_of piece

-- what was written is of the first, and the count is of what wasn't
pub record IsKept (pieces : List Piece) (tail : List ℕ) (written waiting : ℕ) : Type 0 where
  pub begun : written ≤ length (first_of pieces tail)
  pub counted : waiting ≡ length (drop written (all_of pieces tail))

-- these octets came behind all that there were, and the first piece is no shorter
pub record Grows (pieces : List Piece) (tail : List ℕ) (pieces' : List Piece) (tail' octets : List ℕ) : Type 0 where
  pub all : all_of pieces' tail' ≡ all_of pieces tail ++ octets
  pub first : length (first_of pieces tail) ≤ length (first_of pieces' tail')

-- the same, unless memory was refused
abbrev pub GrowsIfOk : {T : Type 0} → List Piece → List ℕ → List Piece → List ℕ → List ℕ → Result T AllocError → Type 0
GrowsIfOk pieces tail pieces' tail' octets (Ok done) = Grows pieces tail pieces' tail' octets
GrowsIfOk pieces tail pieces' tail' octets (Err refused) = Grows pieces tail pieces' tail' []
