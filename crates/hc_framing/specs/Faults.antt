-- Where the faults of a message stand.
use Rattle.std.specs.Prelude.{◌≡◌, ◌≢◌, ℕ, ◌<◌, ◌≤◌, ◌⊎◌, Bool, List, length, drop, Result, Ok, Err}
use Rattle.hc_head.specs.declared.head.Room.{Room}
use Rattle.hc_head.specs.declared.head.RequestHead.{RequestHead}
use Rattle.hc_head.specs.declared.head.ResponseHead.{ResponseHead}
use Rattle.hc_framing.specs.declared.kind.Kind.{Kind}
use Rattle.hc_framing.specs.declared.kind.Kind.TheVariants.{Request, Response}
use Rattle.hc_head.specs.declared.fault.HeadFault.{HeadFault}
use Rattle.hc_head.specs.declared.fault.HeadFault.TheVariants as heads
use Rattle.hc_head.specs.Reading.{IsWholeHead, GivesHead, HasNoHead, CanBecomeHead}
use Rattle.hc_framing.specs.declared.message.Message.{Message}
use Rattle.hc_framing.specs.declared.fault.FrameFault.{FrameFault}
use Rattle.hc_framing.specs.declared.fault.FrameFault.TheVariants.{Head, BothLengths, BadLength, BadCoding, BadChunk, BodyTooLong, Truncated, Memory, Failed}
use Rattle.hc_framing.specs.declared.framing.Framing.{Framing}
use Rattle.hc_framing.specs.declared.framing.Framing.TheVariants.{UntilClose}
use Rattle.hc_framing.specs.Forms.{Form}
use Rattle.hc_framing.specs.Messages.{BeginsMessage, IsWholeMessage, request_form, response_form}
use Rattle.hc_framing.specs.Bodies.{IsOpenBody, BreaksBody}

-- a fault of a head as one of a message
abbrev pub head_fault : HeadFault → FrameFault
head_fault heads.Syntax = Head heads.Syntax
head_fault heads.TooManyFields = Head heads.TooManyFields
head_fault heads.TooLong = Head heads.TooLong
head_fault heads.Host = Head heads.Host
head_fault heads.Target = Head heads.Target
head_fault heads.Memory = Memory

module _ {H : Type 0} (form : Form H) (kind : Kind) where
  -- a whole head begins the octets, whose fields show the fault
  pub record ShowsFault (fault : FrameFault) (octets : List ℕ) (room : Room) : Type 0 where
    pub head : H
    pub len : ℕ
    pub begins : IsWholeHead form.begins form.field_count octets room head len
    pub framed : form.framing_of kind head ≡ Err fault

  -- a whole head begins the octets, and the body behind it breaks by the fault
  pub record BreaksBehind (fault : FrameFault) (octets : List ℕ) (room : Room) : Type 0 where
    pub head : H
    pub len : ℕ
    pub begins : IsWholeHead form.begins form.field_count octets room head len
    pub frame : Framing
    pub framed : form.framing_of kind head ≡ Ok frame
    pub breaks : BreaksBody fault frame (drop len octets)

  -- where a fault stands, whatever follows the octets
  abbrev pub StandsIn : FrameFault → List ℕ → Room → Type 0
  StandsIn (Head fault) octets room = (fault ≢ heads.Memory) × GivesHead form.begins form.field_count (Err fault) octets room
  StandsIn BothLengths octets room = ShowsFault BothLengths octets room
  StandsIn BadLength octets room = ShowsFault BadLength octets room
  StandsIn BadCoding octets room = ShowsFault BadCoding octets room
  StandsIn BadChunk octets room = BreaksBehind BadChunk octets room
  StandsIn BodyTooLong octets room = ShowsFault BodyTooLong octets room ⊎ BreaksBehind BodyTooLong octets room
  StandsIn Truncated octets room = ⊥
  StandsIn Memory octets room = Unit {0}
  StandsIn Failed octets room = ⊥

  -- no head has ended, and more octets can make the octets one
  pub record AwaitsHead (octets : List ℕ) (room : Room) : Type 0 where
    pub none : HasNoHead form.begins form.field_count octets room
    pub short : length octets < room.octets
    pub can : CanBecomeHead form.begins octets

  -- a whole head begins the octets, and the body behind it hasn't ended
  pub record AwaitsBody (octets : List ℕ) (room : Room) : Type 0 where
    pub head : H
    pub len : ℕ
    pub begins : IsWholeHead form.begins form.field_count octets room head len
    pub frame : Framing
    pub framed : form.framing_of kind head ≡ Ok frame
    pub is_open : IsOpenBody frame (drop len octets)

  -- where a fault stands at the end of the octets, when no more come
  abbrev pub StandsAtEnd : FrameFault → List ℕ → Room → Type 0
  StandsAtEnd (Head fault) octets room = StandsIn (Head fault) octets room
  StandsAtEnd Truncated octets room = AwaitsHead octets room ⊎ ((a : AwaitsBody octets room) × (a.frame ≢ UntilClose))
  StandsAtEnd Memory octets room = Unit {0}
  StandsAtEnd fault octets room = ⊥

  -- a message begins the octets, its head keeps to the room, and octets follow it
  pub record GoesOnBehind (octets : List ℕ) (room : Room) : Type 0 where
    pub message : Message H
    pub len : ℕ
    pub begins : BeginsMessage form kind octets message len
    pub octets_fit : begins.head_len ≤ room.octets
    pub fields_fit : form.field_count begins.head ≤ room.fields
    pub more : len < length octets

  -- where a fault of octets stands that are to be one message and no more
  abbrev pub StandsInWhole : FrameFault → List ℕ → Room → Type 0
  StandsInWhole Truncated octets room = StandsAtEnd Truncated octets room
  StandsInWhole BadLength octets room = StandsIn BadLength octets room ⊎ GoesOnBehind octets room
  StandsInWhole fault octets room = StandsIn fault octets room

  -- the message keeps to the room
  pub record IsWholeIn (octets : List ℕ) (room : Room) (message : Message H) : Type 0 where
    pub is : IsWholeMessage form kind octets message
    pub octets_fit : is.head_len ≤ room.octets
    pub fields_fit : form.field_count is.head ≤ room.fields

  -- each answer on octets that are to be one message stands only where this says so
  abbrev pub GivesMessage : Result (Message H) FrameFault → List ℕ → Room → Type 0
  GivesMessage (Ok message) octets room = IsWholeIn octets room message
  GivesMessage (Err fault) octets room = StandsInWhole fault octets room

-- the answer is that message, unless memory ran out
abbrev pub FindsMessage : {H : Type 0} → Result (Message H) FrameFault → Message H → Type 0
FindsMessage (Ok found) message = found ≡ message
FindsMessage (Err fault) message = fault ≡ Memory

-- ---- requests and responses

-- all of the octets are the request, and its head keeps to the room
abbrev pub IsWholeRequest : List ℕ → Room → Message RequestHead → Type 0
IsWholeRequest = IsWholeIn request_form Request

-- all of the octets are the response, to a HEAD request or another, and its head keeps to the room
abbrev pub IsWholeResponse : Bool → List ℕ → Room → Message ResponseHead → Type 0
IsWholeResponse to_head = IsWholeIn response_form (Response to_head)

abbrev pub GivesRequest : Result (Message RequestHead) FrameFault → List ℕ → Room → Type 0
GivesRequest = GivesMessage request_form Request

abbrev pub GivesResponse : Bool → Result (Message ResponseHead) FrameFault → List ℕ → Room → Type 0
GivesResponse to_head = GivesMessage response_form (Response to_head)
