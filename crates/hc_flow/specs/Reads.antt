-- What comes of a read.
use Rattle.std.specs.Prelude.{◌≡◌, ℕ, ◌≤◌, ◌<◌, ◌==◌, ◌||◌, Bool, true, false, List, ◌++◌, length, take}
use Rattle.hc_flow.specs.Passing.{Stays}
use Rattle.hc_flow.specs.declared.stream.Arrival.{Arrival}
use Rattle.hc_flow.specs.declared.stream.Arrival.TheVariants.{Octets, End, Later, Failed}

-- what was read is what the front of the buffer has, at least one octet; else nothing was
abbrev pub Reads : (List ℕ → Type 0) → (List ℕ → Type 0) → Arrival → List ℕ → Type 0
Reads before after (Octets n) buffer = (0 < n) × (n ≤ length buffer) × ((given : List ℕ) → before given → after (given ++ take n buffer))
Reads before after End buffer = Stays before after
Reads before after Later buffer = Stays before after
Reads before after Failed buffer = Stays before after

-- it has failed where the answer says so, and stays so
abbrev pub FailsRead : Type 0 → Type 0 → Arrival → Type 0
FailsRead before after Failed = after
FailsRead before after other = before → after

-- an end is told only where the other side has ended
abbrev pub EndsRead : (has_ended : Type 0) → Arrival → Type 0
EndsRead has_ended End = has_ended
EndsRead has_ended other = Unit {0}

-- so many octets, at least one, stand at the front of the buffer
abbrev pub FitsBuffer : Arrival → List ℕ → Type 0
FitsBuffer (Octets n) buffer = (0 < n) × (n ≤ length buffer)
FitsBuffer other buffer = Unit {0}

-- these octets more were heard, or none
abbrev pub HearsArrival : (List ℕ → Type 0) → Arrival → List ℕ → List ℕ → Type 0
HearsArrival hears (Octets n) buffer heard = hears (heard ++ take n buffer)
HearsArrival hears End buffer heard = hears heard
HearsArrival hears Later buffer heard = hears heard
HearsArrival hears Failed buffer heard = hears heard

-- what waits stays, unless the link has failed
abbrev pub KeepsWaiting : Arrival → List ℕ → List ℕ → Type 0
KeepsWaiting Failed before after = Unit {0}
KeepsWaiting other before after = after ≡ before

-- whether the link has failed, as the answer says
abbrev pub is_failed_read : Arrival → Bool
is_failed_read Failed = true
is_failed_read other = false

-- whether one more read may bring something, by whether it might before, and by whether the other side has closed its half: a buffer that wasn't filled took all that there was
abbrev pub is_readable_behind : Arrival → (readable hung_up : Bool) (size : ℕ) → Bool
is_readable_behind (Octets n) readable hung_up size = hung_up || (n == size)
is_readable_behind Later readable hung_up size = false
is_readable_behind other readable hung_up size = readable
