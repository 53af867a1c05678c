-- What comes of a write.
use Rattle.std.specs.Prelude.{◌≡◌, ℕ, ◌≤◌, ◌<◌, List, ◌++◌, length, take, drop}
use Rattle.hc_flow.specs.Passing.{Stays}
use Rattle.hc_flow.specs.declared.stream.Uptake.{Uptake}
use Rattle.hc_flow.specs.declared.stream.Uptake.TheVariants.{Octets, Later, Failed}

-- what was written is the front of the octets, at least one; else nothing was
abbrev pub Takes : (List ℕ → Type 0) → (List ℕ → Type 0) → Uptake → List ℕ → Type 0
Takes before after (Octets n) octets = (0 < n) × (n ≤ length octets) × ((got : List ℕ) → before got → after (got ++ take n octets))
Takes before after Later octets = Stays before after
Takes before after Failed octets = Stays before after

-- the same, and what was written waits no more
abbrev pub TakesOff : (List ℕ → Type 0) → (List ℕ → Type 0) → Uptake → List ℕ → List ℕ → Type 0
TakesOff before after (Octets n) waited waits = Takes before after (Octets n) waited × (waits ≡ drop n waited)
TakesOff before after Later waited waits = Stays before after × (waits ≡ waited)
TakesOff before after Failed waited waits = Stays before after × (waits ≡ waited)

-- it has failed where the answer says so, and stays so
abbrev pub FailsWrite : Type 0 → Type 0 → Uptake → Type 0
FailsWrite before after Failed = after
FailsWrite before after other = before → after
