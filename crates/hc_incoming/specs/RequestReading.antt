-- A reader of requests, and the octets behind the last whole request that it was given.
use Rattle.std.specs.Prelude.{◌≡◌, ℕ, ◌<◌, List, [], ◌++◌, length, drop, Option, Some, None, Result, Ok, Err}
use Rattle.std.specs.declared.alloc.AllocError.{AllocError}
use Rattle.hc_incoming.specs.declared.troubles.Trouble.{Trouble}
use Rattle.hc_head.specs.declared.head.RequestHead.{RequestHead}
use Rattle.hc_head.specs.declared.head.Target.{Target}
use Rattle.hc_head.specs.declared.head.TheConstants.Room.{RECEIVED}
use Rattle.hc_framing.specs.declared.kind.Kind.TheVariants as kinds
use Rattle.hc_framing.specs.declared.message.Message.{Message}
use Rattle.hc_framing.specs.Messages.{request_form}
use Rattle.hc_framing.specs.Reader as framing
use Rattle.hc_incoming.specs.declared.arrival.RequestArrival.{RequestArrival}
use Rattle.hc_incoming.specs.declared.arrival.RequestArrival.TheVariants.{Request, Refused, More}
use Rattle.hc_incoming.specs.declared.requests.RequestReader.{RequestReader}
use Rattle.hc_incoming.specs.Counts.{count_of}
use Rattle.hc_incoming.specs.Refusals.{IsRefusedFor}
use Rattle.hc_incoming.specs.Requests.{IsServed, IsRequest, IsUnfinished, IsGivenUp}

-- the head that has come passes its tests, and its target is kept
abbrev pub HasPassed : Option RequestHead → Option Target → Type 0
HasPassed None None = Unit {0}
HasPassed None (Some target) = ⊥
HasPassed (Some head) None = ⊥
HasPassed (Some head) (Some target) = IsServed head target

-- the octets that wait to be read
abbrev pub unread : RequestReader → List ℕ
unread r = r.waits

-- the reader was given these octets behind the last whole request, in whatever pieces, has read them but for those that wait, and has counted them
pub record WasGiven (r : RequestReader) (octets : List ℕ) : Type 0 where
  pub read : List ℕ
  pub reads : framing.Agrees request_form kinds.Request RECEIVED r.reader read
  pub passed : HasPassed r.reader.head r.target
  pub all : octets ≡ read ++ unread r
  pub counted : r.heard ≡ count_of octets

-- it can read on: it hasn't refused what it was given
abbrev pub CanRead : RequestReader → Type 0
CanRead r = framing.CanFeed request_form r.reader

-- it has read all of them
pub record HasRead (r : RequestReader) (octets : List ℕ) : Type 0 where
  pub agrees : WasGiven r octets
  pub none_unread : unread r ≡ []

-- it has read none of them, and all wait
pub record HasUnread (r : RequestReader) (octets : List ℕ) : Type 0 where
  pub agrees : WasGiven r octets
  pub all_unread : unread r ≡ octets

-- the request begins the octets, and what is behind it waits
pub record TakesRequest (r : RequestReader) (octets : List ℕ) (message : Message RequestHead) (target : Target) : Type 0 where
  pub len : ℕ
  pub is_request : IsRequest octets message target len
  pub behind : HasUnread r (drop len octets)

-- each answer on the octets stands only where this says so
abbrev pub GivesNext : Result RequestArrival AllocError → RequestReader → List ℕ → Type 0
GivesNext (Ok (Request message target)) r octets = TakesRequest r octets message target
GivesNext (Ok (Refused trouble)) r octets = IsRefusedFor octets trouble
GivesNext (Ok More) r octets = IsUnfinished octets × HasRead r octets
GivesNext (Err e) r octets = Unit {0}

-- the answer is that request, unless memory ran out
abbrev pub FindsRequest : Result RequestArrival AllocError → Message RequestHead → Target → Type 0
FindsRequest (Ok (Request found found_target)) message target = (found ≡ message) × (found_target ≡ target)
FindsRequest (Ok (Refused trouble)) message target = ⊥
FindsRequest (Ok More) message target = ⊥
FindsRequest (Err e) message target = Unit {0}

-- the reader can read on, where the answer doesn't refuse what it was given
abbrev pub ReadsOn : Result RequestArrival AllocError → RequestReader → Type 0
ReadsOn (Ok (Request message target)) r = CanRead r
ReadsOn (Ok (Refused trouble)) r = Unit {0}
ReadsOn (Ok More) r = CanRead r
ReadsOn (Err e) r = Unit {0}

-- a request takes some of the octets that wait
abbrev pub TakesSome : Result RequestArrival AllocError → RequestReader → RequestReader → Type 0
TakesSome (Ok (Request message target)) r s = length (unread s) < length (unread r)
TakesSome (Ok (Refused trouble)) r s = Unit {0}
TakesSome (Ok More) r s = Unit {0}
TakesSome (Err e) r s = Unit {0}

-- each answer to the client's end stands only where this says so: why a last reply refuses what came, or that there is none
abbrev pub GivesEnd : Result (Option Trouble) AllocError → List ℕ → Type 0
GivesEnd (Ok (Some trouble)) octets = IsRefusedFor octets trouble
GivesEnd (Ok None) octets = IsGivenUp octets
GivesEnd (Err e) octets = Unit {0}
