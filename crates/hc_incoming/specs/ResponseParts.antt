-- For the reader's own functions: what each part of a call does.
use Rattle.std.specs.Prelude.{◌≡◌, ℕ, ◌<◌, ◌≤◌, Bool, List, [], ◌++◌, length, take, Result, Ok, Err}
use Rattle.std.specs.declared.alloc.AllocError.{AllocError}
use Rattle.hc_head.specs.declared.head.TheConstants.Room.{RECEIVED}
use Rattle.hc_framing.specs.declared.kind.Kind.TheVariants.{Response}
use Rattle.hc_framing.specs.Messages.{response_form}
use Rattle.hc_framing.specs.Reader as framing
use Rattle.hc_incoming.specs.Counts.{count_of}
use Rattle.hc_incoming.specs.Responses.{Leaves}
use Rattle.hc_incoming.specs.declared.responses.Part.{Part}
use Rattle.hc_incoming.specs.declared.responses.Part.TheVariants.{Interim, Last}
use Rattle.hc_incoming.specs.declared.responses.ResponseReader.{ResponseReader}
use Rattle.hc_incoming.specs.ResponseReading.{CanRead, WasGiven, GivesHeard, ReadsOn}

-- a response has ended with so many octets of the piece
pub record HasEnded (to_head : Bool) (r : ResponseReader) (octets piece : List ℕ) (used : ℕ) : Type 0 where
  pub to_head_is : r.to_head ≡ to_head
  pub rest : List ℕ
  pub leaves : Leaves to_head octets r.interim rest
  pub counted : r.heard ≡ count_of octets
  pub some : 0 < used
  pub ends : framing.EndsAfter response_form (Response to_head) RECEIVED r.reader rest piece used

-- the reader of the next response was given nothing, and all else stays
pub record BeginsNext (r s : ResponseReader) : Type 0 where
  pub to_head_is : s.to_head ≡ r.to_head
  pub interim_is : s.interim ≡ r.interim
  pub heard_is : s.heard ≡ r.heard
  pub reads : framing.Agrees response_form (Response r.to_head) RECEIVED s.reader []

-- an interim response ends with so many octets of the piece
pub record IsDropped (to_head : Bool) (r : ResponseReader) (octets piece : List ℕ) (used : ℕ) : Type 0 where
  pub some : 0 < used
  pub within : used ≤ length piece
  pub agrees : WasGiven to_head r (octets ++ take used piece)

-- each answer on one response stands only where this says so
abbrev pub GivesPart : Result Part AllocError → Bool → ResponseReader → List ℕ → List ℕ → Type 0
GivesPart (Ok (Interim used)) to_head r octets piece = IsDropped to_head r octets piece used
GivesPart (Ok (Last heard)) to_head r octets piece = GivesHeard (Ok heard) to_head r (octets ++ piece)
GivesPart (Err e) to_head r octets piece = Unit {0}

-- the reader can read on, where a response was dropped or nothing was found yet
abbrev pub PartReadsOn : Result Part AllocError → ResponseReader → Type 0
PartReadsOn (Ok (Interim used)) r = CanRead r
PartReadsOn (Ok (Last heard)) r = ReadsOn (Ok heard) r
PartReadsOn (Err e) r = Unit {0}

-- what was dropped takes some octets of the piece, and no others
abbrev pub TakesSome : Result Part AllocError → List ℕ → Type 0
TakesSome (Ok (Interim used)) piece = (0 < used) × (used ≤ length piece)
TakesSome (Ok (Last heard)) piece = Unit {0}
TakesSome (Err e) piece = Unit {0}

-- what was dropped takes so many octets
abbrev pub TakesThose : Part → ℕ → Type 0
TakesThose (Interim taken) used = taken ≡ used
TakesThose (Last heard) used = Unit {0}
