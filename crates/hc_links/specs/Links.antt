-- What links do.
use Rattle.std.specs.Prelude.{◌≡◌, ℕ, ◌+◌, ◌≤◌, ◌<◌, ◌^◌, ◌-◌, ◌⊎◌, List, ◌++◌, length, take, Result, Ok, Err}
use Rattle.std.specs.declared.alloc.AllocError.{AllocError}
use Rattle.hc_links.specs.declared.link.LinkFailure.{LinkFailure}
use Rattle.hc_links.specs.declared.reading.Came.{Came}
use Rattle.hc_links.specs.declared.reading.Came.TheVariants.{Octets, End, Failure}

-- one that has failed so often may be used no more
abbrev pub greatest_count : ℕ
greatest_count = 2 ^ 64 - 1

-- what was read is what the front of the buffer has; a failure reads nothing
abbrev pub Reads : (List ℕ → Type 0) → (List ℕ → Type 0) → Result ℕ LinkFailure → List ℕ → Type 0
Reads before after (Ok n) buffer = (n ≤ length buffer) × ((given : List ℕ) → before given → after (given ++ take n buffer))
Reads before after (Err failure) buffer = (given : List ℕ) → before given → after given

-- what was written is the front of the octets, of some at least one; a failure writes nothing
abbrev pub Writes : (List ℕ → Type 0) → (List ℕ → Type 0) → Result ℕ LinkFailure → List ℕ → Type 0
Writes before after (Ok n) octets = (n ≤ length octets) × (0 < length octets → 0 < n) × ((got : List ℕ) → before got → after (got ++ take n octets))
Writes before after (Err failure) octets = (got : List ℕ) → before got → after got

-- each failure is counted, and nothing else is
abbrev pub Counts : {T : Type 0} → Result T LinkFailure → ℕ → ℕ → Type 0
Counts (Ok done) before after = after ≡ before
Counts (Err failure) before after = after ≡ 1 + before

-- these are the front of the octets
abbrev pub IsBeginning : List ℕ → List ℕ → Type 0
IsBeginning front octets = (rest : List ℕ) × (octets ≡ front ++ rest)

-- all of the octets were written, or after a failure a beginning of them
abbrev pub WritesAll : {T : Type 0} → (List ℕ → Type 0) → (List ℕ → Type 0) → Result T LinkFailure → List ℕ → Type 0
WritesAll before after (Ok done) octets = (got : List ℕ) → before got → after (got ++ octets)
WritesAll before after (Err failure) octets =
    (got : List ℕ) → before got → (front : List ℕ) × IsBeginning front octets × after (got ++ front)

-- what came of a read was read, and is no more than that many octets; where memory is refused nothing was
abbrev pub GivesCame : ℕ → (List ℕ → Type 0) → (List ℕ → Type 0) → Result Came AllocError → Type 0
GivesCame most before after (Ok (Octets octets)) = (length octets ≤ most) × ((given : List ℕ) → before given → after (given ++ octets))
GivesCame most before after (Ok End) = (given : List ℕ) → before given → after given
GivesCame most before after (Ok Failure) = (given : List ℕ) → before given → after given
GivesCame most before after (Err refused) = (given : List ℕ) → before given → after given

-- what came was read by one read; a failure by one at the most, and where memory is refused nothing was read
abbrev pub ReadsCame : (ℕ → Type 0) → (ℕ → Type 0) → Result Came AllocError → Type 0
ReadsCame before after (Ok (Octets octets)) = (times : ℕ) → before times → after (1 + times)
ReadsCame before after (Ok End) = (times : ℕ) → before times → after (1 + times)
ReadsCame before after (Ok Failure) = (times : ℕ) → before times → (more : ℕ) × (more ≤ 1) × after (more + times)
ReadsCame before after (Err refused) = (times : ℕ) → before times → after times

-- a failure is counted, as far as can be counted
abbrev pub CountsFailure : ℕ → ℕ → Type 0
CountsFailure before after = (after ≡ 1 + before) ⊎ ((greatest_count ≤ before) × (after ≡ before))

-- and nothing else is
abbrev pub CountsCame : Result Came AllocError → ℕ → ℕ → Type 0
CountsCame (Ok (Octets octets)) before after = after ≡ before
CountsCame (Ok End) before after = after ≡ before
CountsCame (Ok Failure) before after = CountsFailure before after
CountsCame (Err refused) before after = after ≡ before

abbrev pub CountsSent : {T : Type 0} → Result T LinkFailure → ℕ → ℕ → Type 0
CountsSent (Ok done) before after = after ≡ before
CountsSent (Err failure) before after = CountsFailure before after

-- the most octets that a read brings
abbrev pub most_octets : ℕ
most_octets = 8192
