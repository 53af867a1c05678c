-- The earlier of two times, and the earliest of all.
use Rattle.std.specs.Prelude.{◌≤◌, ℕ, Option, Some, None, min}

-- the earlier of two times, if there are any
abbrev pub earlier_of : Option ℕ → Option ℕ → Option ℕ
earlier_of None other = other
earlier_of (Some one) None = Some one
earlier_of (Some one) (Some other) = Some (min one other)

-- it is the earliest of the times that are so; there is none where no time is so
abbrev pub IsEarliest : (IsSo : ℕ → Type 0) → Option ℕ → Type 0
IsEarliest IsSo None = (time : ℕ) → IsSo time → ⊥
IsEarliest IsSo (Some first) = IsSo first × ((time : ℕ) → IsSo time → first ≤ time)
