-- A reader of messages in pieces, and the octets that it was given, of which it keeps those of the head or of the body.
use Rattle.std.specs.Prelude.{◌≡◌, ◌≢◌, ℕ, ◌+◌, ◌<◌, ◌≤◌, ◌⊎◌, List, [], ◌++◌, length, take, drop, Option, Some, None, IfSome, Result, Ok, Err}
use Rattle.hc_head.specs.declared.head.Room.{Room}
use Rattle.hc_head.specs.declared.empty_line.Search.TheVariants.{Blank, Found}
use Rattle.hc_head.specs.EmptyLine.{searched}
use Rattle.hc_head.specs.Reading.{IsWholeHead, HasNoHead}
use Rattle.hc_framing.specs.declared.message.Message.{Message}
use Rattle.hc_framing.specs.declared.kind.Kind.{Kind}
use Rattle.hc_framing.specs.declared.fault.FrameFault.{FrameFault}
use Rattle.hc_framing.specs.declared.fault.FrameFault.TheVariants as faults
use Rattle.hc_framing.specs.declared.framing.Framing.{Framing}
use Rattle.hc_framing.specs.declared.reader.MessageReader.{MessageReader}
use Rattle.hc_framing.specs.declared.reader.MessageStage.{MessageStage}
use Rattle.hc_framing.specs.declared.reader.MessageStage.TheVariants.{Head, Body, End, Failed}
use Rattle.hc_framing.specs.declared.progress.Progress.{Progress}
use Rattle.hc_framing.specs.declared.progress.Progress.TheVariants.{More, Whole}
use Rattle.hc_framing.specs.Forms.{Form}
use Rattle.hc_framing.specs.Messages.{BeginsMessage}
use Rattle.hc_framing.specs.Faults.{StandsIn, StandsAtEnd, AwaitsBody, IsWholeIn}
use Rattle.hc_framing.specs.BodyReading.{AgreesBody}

-- after a fault it answers `Failed` for ever
abbrev pub HasFailed : {H : Type 0} → MessageReader H → Type 0
HasFailed r = r.stage ≡ Failed

-- it has found that message
pub record Holds {H : Type 0} (r : MessageReader H) (message : Message H) : Type 0 where
  pub stage_is : r.stage ≡ End
  pub head_is : r.head ≡ Some message.head
  pub body_is : r.body.whole ≡ message.body

-- it has found some message
abbrev pub HasMessage : {H : Type 0} → MessageReader H → Type 0
HasMessage {H} r = (message : Message H) × Holds r message

-- there are fewer octets than the room has, or none
abbrev pub HasRoomLeft : List ℕ → Room → Type 0
HasRoomLeft octets room = (octets ≡ []) ⊎ (length octets < room.octets)

module _ {H : Type 0} (form : Form H) where
  -- no empty line has come, there is room for more, and the reader keeps the octets
  pub record KeepsHead (room : Room) (r : MessageReader H) (octets : List ℕ) : Type 0 where
    pub start_is : r.start ≡ octets
    pub search_is : r.search ≡ searched Blank octets
    pub none_yet : r.search ≢ Found
    pub fits : HasRoomLeft octets room
    pub no_head : r.head ≡ None

  -- a whole head begins the octets, and the reader keeps it, without the fields that frame the body, and what has come of the body
  pub record KeepsBody (kind : Kind) (room : Room) (r : MessageReader H) (octets : List ℕ) : Type 0 where
    pub head : H
    pub len : ℕ
    pub begins : IsWholeHead form.begins form.field_count octets room head len
    pub frame : Framing
    pub framed : form.framing_of kind head ≡ Ok frame
    pub head_is : r.head ≡ Some (form.without_framing head)
    pub body : AgreesBody frame r.body (drop len octets)

  abbrev pub AgreesAt : MessageStage → Kind → Room → MessageReader H → List ℕ → Type 0
  AgreesAt Head kind room r octets = KeepsHead room r octets
  AgreesAt Body kind room r octets = KeepsBody kind room r octets
  AgreesAt End kind room r octets = ⊥
  AgreesAt Failed kind room r octets = ⊥

  -- the reader, for that kind of message and in that room, was given these octets, in whatever pieces, and no message has ended in them
  abbrev pub Agrees : Kind → Room → MessageReader H → List ℕ → Type 0
  Agrees kind room r octets = (r.kind ≡ kind) × (r.room ≡ room) × AgreesAt r.stage kind room r octets

  -- it agrees with some octets
  pub record IsAgreeing (r : MessageReader H) : Type 0 where
    pub kind : Kind
    pub room : Room
    pub octets : List ℕ
    pub agrees : Agrees kind room r octets

  -- it can be given more: it hasn't found a message
  abbrev pub CanFeed : MessageReader H → Type 0
  CanFeed r = IsAgreeing r ⊎ HasFailed r

  -- no front of the octets is a message
  abbrev pub HasNoMessage : Kind → List ℕ → Type 0
  HasNoMessage kind octets = (message : Message H) (len : ℕ) → ¬ (BeginsMessage form kind octets message len)

  -- a message begins the octets, and its head keeps to the room
  pub record BeginsIn (kind : Kind) (octets : List ℕ) (room : Room) (message : Message H) (len : ℕ) : Type 0 where
    pub begins : BeginsMessage form kind octets message len
    pub octets_fit : begins.head_len ≤ room.octets
    pub fields_fit : form.field_count begins.head ≤ room.fields

  -- with so many octets of the piece the octets are a message, and the reader holds it
  pub record EndsAfter (kind : Kind) (room : Room) (r : MessageReader H) (octets piece : List ℕ) (used : ℕ) : Type 0 where
    pub within : used ≤ length piece
    pub message : Message H
    pub begins : BeginsIn kind (octets ++ take used piece) room message (length octets + used)
    pub holds : Holds r message

  -- each answer to a piece that follows the octets stands only where this says so
  abbrev pub FeedGives : Result Progress FrameFault → Kind → Room → MessageReader H → List ℕ → List ℕ → Type 0
  FeedGives (Ok More) kind room r octets piece = Agrees kind room r (octets ++ piece)
  FeedGives (Ok (Whole used)) kind room r octets piece = EndsAfter kind room r octets piece used
  FeedGives (Err fault) kind room r octets piece = StandsIn form kind fault (octets ++ piece) room

  -- what is shown of the head of the octets: the whole head that begins them, where its fields frame the body, without the fields that do
  pub record IsHeadOf (kind : Kind) (room : Room) (octets : List ℕ) (shown : H) : Type 0 where
    pub head : H
    pub len : ℕ
    pub begins : IsWholeHead form.begins form.field_count octets room head len
    pub frame : Framing
    pub framed : form.framing_of kind head ≡ Ok frame
    pub shown_is : shown ≡ form.without_framing head

  -- the head of the octets is shown, where it is there
  abbrev pub ShowsHead : Kind → Room → List ℕ → Option H → Type 0
  ShowsHead kind room octets None = (shown : H) → ¬ (IsHeadOf kind room octets shown)
  ShowsHead kind room octets (Some shown) = IsHeadOf kind room octets shown

  -- the same after an answer to a piece: where memory ran out, nothing else is shown
  abbrev pub ShowsHeadAfter : Result Progress FrameFault → Kind → Room → List ℕ → Option H → Type 0
  ShowsHeadAfter (Ok progress) kind room octets shown = ShowsHead kind room octets shown
  ShowsHeadAfter (Err faults.Memory) kind room octets shown = IfSome shown (IsHeadOf kind room octets)
  ShowsHeadAfter (Err fault) kind room octets shown = ShowsHead kind room octets shown

  -- a head hasn't come and has room left, or the body behind it is so far within the syntax, line by line
  abbrev pub IsInTime : Kind → Room → List ℕ → Type 0
  IsInTime kind room octets = (HasNoHead form.begins form.field_count octets room × HasRoomLeft octets room) ⊎ AwaitsBody form kind octets room

  -- the octets that have ended are that message, and the reader holds it
  pub record EndsHere (kind : Kind) (room : Room) (r : MessageReader H) (octets : List ℕ) : Type 0 where
    pub message : Message H
    pub is : IsWholeIn form kind octets room message
    pub holds : Holds r message

  -- each answer to the end of the octets stands only where this says so
  abbrev pub EndGives : Result Progress FrameFault → Kind → Room → MessageReader H → List ℕ → Type 0
  EndGives (Ok More) kind room r octets = ⊥
  EndGives (Ok (Whole used)) kind room r octets = (used ≡ 0) × EndsHere kind room r octets
  EndGives (Err fault) kind room r octets = StandsAtEnd form kind fault octets room

-- the answer to a piece is the message that begins the octets and the piece, unless memory ran out
abbrev pub FeedFinds : {H : Type 0} → Result Progress FrameFault → MessageReader H → List ℕ → Message H → ℕ → Type 0
FeedFinds (Ok More) r octets message len = ⊥
FeedFinds (Ok (Whole used)) r octets message len = (length octets + used ≡ len) × Holds r message
FeedFinds (Err fault) r octets message len = fault ≡ faults.Memory

-- the claim stands where the message is whole
abbrev pub OnWhole : Result Progress FrameFault → Type 0 → Type 0
OnWhole (Ok More) claim = Unit {0}
OnWhole (Ok (Whole used)) claim = claim
OnWhole (Err fault) claim = Unit {0}
