-- A reader of the response to a forward, and the octets that it was given.
use Rattle.std.specs.Prelude.{◌≡◌, ℕ, Bool, List, Result, Ok, Err}
use Rattle.std.specs.declared.alloc.AllocError.{AllocError}
use Rattle.hc_head.specs.declared.head.ResponseHead.{ResponseHead}
use Rattle.hc_head.specs.declared.head.TheConstants.Room.{RECEIVED}
use Rattle.hc_framing.specs.declared.kind.Kind.TheVariants as kinds
use Rattle.hc_framing.specs.declared.message.Message.{Message}
use Rattle.hc_framing.specs.Messages.{response_form}
use Rattle.hc_framing.specs.Reader as framing
use Rattle.hc_incoming.specs.declared.arrival.Ended.{Ended}
use Rattle.hc_incoming.specs.declared.arrival.Ended.TheVariants as ended
use Rattle.hc_incoming.specs.declared.arrival.ResponseHeard.{ResponseHeard}
use Rattle.hc_incoming.specs.declared.arrival.ResponseHeard.TheVariants.{Response, Failed, More}
use Rattle.hc_incoming.specs.declared.responses.ResponseReader.{ResponseReader}
use Rattle.hc_incoming.specs.Counts.{count_of}
use Rattle.hc_incoming.specs.Failures.{IsFailureFor, IsFailureAtEndFor}
use Rattle.hc_incoming.specs.Responses.{Leaves, IsResponse, IsUnfinished, IsResponseAtEnd}

-- it can be given more: it has found neither a response nor a failure
abbrev pub CanRead : ResponseReader → Type 0
CanRead r = framing.CanFeed response_form r.reader

-- the reader of a response, to HEAD or another method, was given these octets, in whatever pieces, and has counted them
pub record WasGiven (to_head : Bool) (r : ResponseReader) (octets : List ℕ) : Type 0 where
  pub to_head_is : r.to_head ≡ to_head
  pub rest : List ℕ
  pub leaves : Leaves to_head octets r.interim rest
  pub reads : framing.Agrees response_form (kinds.Response to_head) RECEIVED r.reader rest
  pub counted : r.heard ≡ count_of octets

-- each answer on the octets stands only where this says so
abbrev pub GivesHeard : Result ResponseHeard AllocError → Bool → ResponseReader → List ℕ → Type 0
GivesHeard (Ok (Response message)) to_head r octets = IsResponse to_head octets message
GivesHeard (Ok (Failed trouble)) to_head r octets = IsFailureFor to_head octets trouble
GivesHeard (Ok More) to_head r octets = IsUnfinished to_head octets × WasGiven to_head r octets
GivesHeard (Err e) to_head r octets = Unit {0}

-- the reader can read on, where nothing was found yet
abbrev pub ReadsOn : Result ResponseHeard AllocError → ResponseReader → Type 0
ReadsOn (Ok (Response message)) r = Unit {0}
ReadsOn (Ok (Failed trouble)) r = Unit {0}
ReadsOn (Ok More) r = CanRead r
ReadsOn (Err e) r = Unit {0}

-- the answer is that response, unless memory ran out
abbrev pub FindsResponse : Result ResponseHeard AllocError → Message ResponseHead → Type 0
FindsResponse (Ok (Response found)) message = found ≡ message
FindsResponse (Ok (Failed trouble)) message = ⊥
FindsResponse (Ok More) message = ⊥
FindsResponse (Err e) message = Unit {0}

-- each answer at the origin's end stands only where this says so: the response, or why there is none
abbrev pub GivesEnd : Result Ended AllocError → Bool → List ℕ → Type 0
GivesEnd (Ok (ended.Response message)) to_head octets = IsResponseAtEnd to_head octets message
GivesEnd (Ok (ended.Failed trouble)) to_head octets = IsFailureAtEndFor to_head octets trouble
GivesEnd (Err e) to_head octets = Unit {0}
