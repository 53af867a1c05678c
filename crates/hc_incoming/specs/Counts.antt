-- How many octets a reader was given, as it counts them.
use Rattle.std.specs.Prelude.{ℕ, ◌-◌, ◌^◌, List, length, min}

-- so many, as far as a count has room for them
abbrev pub count_of : List ℕ → ℕ
count_of octets = min (length octets) (2 ^ 64 - 1)
