-- What is taken of a text.
use Rattle.std.specs.Prelude.{ℕ, ◌≤◌, ◌<◌, List, length}
use Rattle.hc_flow.specs.declared.stream.Uptake.{Uptake}
use Rattle.hc_flow.specs.declared.stream.Uptake.TheVariants.{Octets}

-- so many octets were taken, at least one, and no more than there are
abbrev pub FitsText : Uptake → List ℕ → Type 0
FitsText (Octets n) octets = (0 < n) × (n ≤ length octets)
FitsText other octets = Unit {0}
