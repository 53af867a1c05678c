-- How much memory is held for what waits.
use Rattle.std.specs.Prelude.{◌≡◌, ℕ, ◌+◌, ◌≤◌, List, [], ◌∷◌, length, min}
use Rattle.hc_flow.specs.Pieces.{octets_of}
use Rattle.hc_flow.specs.declared.pieces.Piece.{Piece}
use Rattle.hc_flow.specs.declared.pieces.Piece.TheVariants.{Joined, Shared}

-- of so many octets, some of which may have more owners, no more is held than all, and something where there are any
pub record IsWeight (weight octets : ℕ) : Type 0 where
  pub most : weight ≤ octets
  pub some : min octets 1 ≤ weight

-- what was joined counts whole, and what is shared by its weight
abbrev pub IsWeightOf : ℕ → Piece → Type 0
IsWeightOf weight (Joined octets) = weight ≡ length octets.items
IsWeightOf weight (Shared text) = IsWeight weight (length text)

-- how many octets there are in so many pieces
abbrev pub size_of : List Piece → ℕ
size_of [] = 0
size_of (piece ∷ pieces) = length (octets_of piece) + size_of pieces

-- how many of them are in pieces that were joined
abbrev pub joined_in : List Piece → ℕ
joined_in [] = 0
joined_in (Joined octets ∷ pieces) = length octets.items + joined_in pieces
joined_in (Shared text ∷ pieces) = joined_in pieces
