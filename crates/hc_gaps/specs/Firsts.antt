-- What is named of many things of one kind.
use Rattle.std.specs.Prelude.{◌≡◌, ◌-◌, ◌^◌, ℕ, min, List, length, take}

-- the first of all of them are named, at most so many, and the others are counted, as far as a number goes
pub record AreFirst (most : ℕ) (all named : List (List ℕ)) (more : ℕ) : Type 0 where
  pub first : named ≡ take most all
  pub others : more ≡ min (length all - most) (2 ^ 64 - 1)
