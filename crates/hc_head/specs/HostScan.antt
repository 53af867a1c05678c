-- What the functions that look for a host answer. Private functions alone cite this.
use Rattle.std.specs.Prelude.{◌≡◌, ℕ, ◌≤◌, true, List, ◌++◌, length, take, Option, Some, None}
use Rattle.hc_head.specs.declared.hosts.HostAndPort.{HostAndPort}
use Rattle.hc_head.specs.Hosts.{Authority, is_port}

-- what a pair of slices means
abbrev pub authority_of : HostAndPort → Authority
authority_of a = record { host = a.host.now; port = a.port.now }

-- the first len octets are such a text, and no others at the front that a port or nothing follows
pub record IsFront (Is : List ℕ → Type 0) (text : List ℕ) (len : ℕ) : Type 0 where
  pub within : len ≤ length text
  pub is : Is (take len text)
  pub only : (front port : List ℕ) → text ≡ front ++ port → is_port port ≡ true → Is front → length front ≡ len

-- how many octets at the front are such a text, if a port or nothing follows one there
abbrev pub FindsFront : (List ℕ → Type 0) → List ℕ → Option ℕ → Type 0
FindsFront Is text None = (front port : List ℕ) → text ≡ front ++ port → is_port port ≡ true → ¬ (Is front)
FindsFront Is text (Some len) = IsFront Is text len
