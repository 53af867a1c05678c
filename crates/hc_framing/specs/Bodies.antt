-- Bodies that have begun, and faults of bodies.
use Rattle.std.specs.Prelude.{◌≡◌, ℕ, ◌<◌, ◌≤◌, nat_lt, Bool, true, false, List, length}
use Rattle.hc_framing.specs.declared.fault.FrameFault.{FrameFault}
use Rattle.hc_framing.specs.declared.fault.FrameFault.TheVariants.{BadChunk, BodyTooLong}
use Rattle.hc_framing.specs.declared.framing.Framing.{Framing}
use Rattle.hc_framing.specs.declared.framing.Framing.TheVariants.{Nothing, Sized, Chunked, UntilClose}
use Rattle.hc_head.specs.Writable.{longest_body}
use Rattle.hc_framing.specs.Chunks.{IsOpenChunked, NeverHasChunked, IsTooLong}

-- whether a body that is framed so takes octets, for its data or its framing
abbrev pub has_octets : Framing → Bool
has_octets Nothing = false
has_octets (Sized size) = nat_lt 0 size
has_octets Chunked = true
has_octets UntilClose = true

-- the octets begin a body that is framed so, keep its syntax line by line, and its end hasn't come
abbrev pub IsOpenBody : Framing → List ℕ → Type 0
IsOpenBody Nothing octets = ⊥
IsOpenBody (Sized size) octets = length octets < size
IsOpenBody Chunked octets = IsOpenChunked octets
IsOpenBody UntilClose octets = length octets ≤ longest_body

-- the octets say that the body is too long
abbrev pub SaysTooLong : Framing → List ℕ → Type 0
SaysTooLong Nothing octets = ⊥
SaysTooLong (Sized size) octets = ⊥
SaysTooLong Chunked octets = IsTooLong octets
SaysTooLong UntilClose octets = longest_body < length octets

-- where a fault of a body stands
abbrev pub BreaksBody : FrameFault → Framing → List ℕ → Type 0
BreaksBody BadChunk framing octets = (framing ≡ Chunked) × NeverHasChunked octets
BreaksBody BodyTooLong framing octets = SaysTooLong framing octets
BreaksBody _ framing octets = ⊥
