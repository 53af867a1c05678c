-- Wrong replies by their kind, and whether a baseline has them. A kind is a text, and a baseline says how many it has of each.
use Rattle.std.specs.Prelude.{◌≤◌, ◌+◌, ℕ, List, [], ◌∷◌, if◌then◌else◌}
use Rattle.std.specs.Str.{bytes_eq}

abbrev pub Kind : Type 0
Kind = List ℕ

-- how many of these are of a kind
abbrev pub times : Kind → List Kind → ℕ
times kind [] = 0
times kind (one ∷ kinds) = (if bytes_eq kind one then 1 else 0) + times kind kinds

-- the baseline has them all: as many of each kind as there are of them, or more
abbrev pub AreKnown : (Kind → ℕ) → List Kind → Type 0
AreKnown base kinds = (kind : Kind) → times kind kinds ≤ base kind
