-- The order of the windows of a target that are open.
use Rattle.std.specs.Prelude.{ℕ}
use Rattle.std.specs.Ordering.{nat_cmp, ordering_then}
use Rattle.std.specs.declared.cmp.Ordering.{Ordering}

-- windows by the number of answers before them, and then by the numbers of their exchanges
abbrev pub by_opening : ℕ × ℕ → ℕ × ℕ → Ordering
by_opening one other = ordering_then (nat_cmp one.0 other.0) (nat_cmp one.1 other.1)
