-- How much is held for pieces, and for the tail behind them.
use Rattle.std.proofs.Common.{◌≡◌, ℕ, ◌+◌, List, [], ◌∷◌, ◌++◌, length, arith, length-append}
use Rattle.hc_flow.specs.declared.pieces.Piece.{Piece}
use Rattle.hc_flow.specs.declared.pieces.Piece.TheVariants.{Joined, Shared}
use Rattle.hc_flow.specs.Pieces.{all_of, octets_of}
use Rattle.hc_flow.specs.Weights.{joined_in, size_of}

pub size_append : (ps qs : List Piece) → size_of (ps ++ qs) ≡ size_of ps + size_of qs
size_append [] qs = omega arith
size_append (p ∷ ps) qs = let rest = size_append ps qs in omega (arith, rest)

pub joined_append : (ps qs : List Piece) → joined_in (ps ++ qs) ≡ joined_in ps + joined_in qs
joined_append [] qs = omega arith
joined_append (Joined octets ∷ ps) qs = let rest = joined_append ps qs in omega (arith, rest)
joined_append (Shared text ∷ ps) qs = joined_append ps qs

pub all_size : (ps : List Piece) (tail : List ℕ) → length (all_of ps tail) ≡ size_of ps + length tail
all_size [] tail = omega arith
all_size (p ∷ ps) tail = let rest = all_size ps tail in omega (arith, rest, length-append (octets_of p) (all_of ps tail))
