-- Bodies that lie in pieces of octets.
use Rattle.std.specs.Prelude.{ℕ, ◌+◌, ◌≤◌, ◌==◌, List, [], ◌∷◌, Option, Some, None, map, zip}
use Rattle.std.specs.Borrow.{Bor}
use Rattle.std.specs.List.{prefix_len}
use Rattle.std.specs.Coded.{×_prop, Unit-prop, le_prop}
use Rattle.hc_fields.specs.Views.{piece}
use Rattle.hc_framing.specs.declared.body_view.Piece.{Piece}

-- the octets of the piece
abbrev pub piece_at : List ℕ → Piece → List ℕ
piece_at octets at = piece octets at.start at.len

-- the first piece begins at the place or behind it, and each other one where the one before it ends or behind that
abbrev pub AreInOrder : ℕ → List Piece → Type 0
AreInOrder at [] = Unit {0}
AreInOrder at (p ∷ ps) = (at ≤ p.start) × AreInOrder (p.start + p.len) ps

-- the place where the last piece ends; where there is none, the one that they are counted from
abbrev pub end_of : ℕ → List Piece → ℕ
end_of at [] = at
end_of at (p ∷ ps) = end_of (p.start + p.len) ps

-- there are no two proofs of that, so that a struct can keep one
pub AreInOrder-prop : (at : ℕ) (pieces : List Piece) → IsProp (AreInOrder at pieces)
AreInOrder-prop at [] = Unit-prop
AreInOrder-prop at (p ∷ ps) = ×_prop le_prop (AreInOrder-prop (p.start + p.len) ps)

-- how many octets both begin with
abbrev pub in_common : List ℕ → List ℕ → ℕ
in_common one other = prefix_len (λ pair. pair.0 == pair.1) (zip one other)

-- the slice that is to come before the pieces, if one is, and those of the pieces
abbrev pub slices_at : Option (Bor (List ℕ)) → List ℕ → List Piece → List (List ℕ)
slices_at (Some one) octets pieces = one.now ∷ map (piece_at octets) pieces
slices_at None octets pieces = map (piece_at octets) pieces
