-- For the reader's own functions: what each part of a call does.
use Rattle.std.specs.Prelude.{◌≡◌, ◌≢◌, ℕ, ◌/◌, Bool, ◌||◌, nat_lt, nat_le, true, false, List, [], length, Option, Some, None, Result, Ok, Err}
use Rattle.hc_head.specs.declared.fault.HeadFault.TheVariants as heads
use Rattle.hc_head.specs.declared.empty_line.Search.{Search}
use Rattle.hc_head.specs.declared.empty_line.Search.TheVariants.{Blank, Line, Start, Return, Found}
use Rattle.hc_head.specs.Reading.{IsWholeHead, GivesHead}
use Rattle.hc_framing.specs.declared.fault.FrameFault.{FrameFault}
use Rattle.hc_framing.specs.declared.fault.FrameFault.TheVariants as faults
use Rattle.hc_framing.specs.declared.framing.Framing.{Framing}
use Rattle.hc_framing.specs.declared.framing.Framing.TheVariants.{UntilClose}
use Rattle.hc_framing.specs.declared.reader.MessageReader.{MessageReader}
use Rattle.hc_framing.specs.declared.reader.MessageStage.TheVariants.{Body, End}
use Rattle.hc_framing.specs.declared.progress.Progress.{Progress}
use Rattle.hc_framing.specs.declared.progress.Progress.TheVariants.{More, Whole}
use Rattle.hc_framing.specs.Forms.{Form}
use Rattle.hc_framing.specs.Faults.{AwaitsHead}
use Rattle.hc_framing.specs.Framing.{IsFramingFault}
use Rattle.hc_framing.specs.BodyReading.{AgreesBody, FaultsBody, GivesBody}

abbrev pub is_found : Search → Bool
is_found Found = true
is_found Blank = false
is_found Line = false
is_found Start = false
is_found Return = false

-- whether the octets of the head are to be tried
abbrev pub is_due : {H : Type 0} → MessageReader H → Bool
is_due r = is_found r.search || (nat_le r.room.octets (length r.start) || nat_lt r.tried (length r.start / 2))

-- what stays the same while the head is read
pub record SameHead {H : Type 0} (r s : MessageReader H) : Type 0 where
  pub kind_is : s.kind ≡ r.kind
  pub room_is : s.room ≡ r.room
  pub stage_is : s.stage ≡ r.stage
  pub start_is : s.start ≡ r.start
  pub search_is : s.search ≡ r.search

-- the same of the head that is shown
abbrev pub SameShown : {H : Type 0} → MessageReader H → MessageReader H → Type 0
SameShown r s = s.head ≡ r.head

module _ {H : Type 0} (form : Form H) where
  -- a whole head, and what its fields say of the body
  pub record HasRead (r : MessageReader H) (frame : Result Framing FrameFault) : Type 0 where
    pub head : H
    pub len : ℕ
    pub begins : IsWholeHead form.begins form.field_count r.start r.room head len
    pub framed : form.framing_of r.kind head ≡ frame

  -- where a fault of reading the head stands
  abbrev pub FaultsHead : FrameFault → MessageReader H → Type 0
  FaultsHead (faults.Head fault) r = (fault ≢ heads.Memory) × GivesHead form.begins form.field_count (Err fault) r.start r.room
  FaultsHead faults.Memory r = Unit {0}
  FaultsHead fault r = HasRead r (Err fault) × IsFramingFault fault

  abbrev pub ReadsHead : Result (Option Framing) FrameFault → MessageReader H → MessageReader H → Type 0
  ReadsHead (Ok None) r s = SameHead r s × SameShown r s × AwaitsHead form r.kind r.start r.room
  ReadsHead (Ok (Some frame)) r s = SameHead r s × ((read : HasRead r (Ok frame)) × (s.head ≡ Some (form.without_framing read.head)))
  ReadsHead (Err fault) r s = SameShown r s × FaultsHead fault r

-- what stays the same while the body is read
pub record SameBody {H : Type 0} (r s : MessageReader H) : Type 0 where
  pub kind_is : s.kind ≡ r.kind
  pub room_is : s.room ≡ r.room
  pub head_is : s.head ≡ r.head

-- what an answer to a piece of the body says, behind octets of it with which the reader of the body agrees
abbrev pub FeedsBody : {H : Type 0} → Result Progress FrameFault → MessageReader H → MessageReader H → List ℕ → Type 0
FeedsBody (Ok More) r s piece = SameBody r s × (s.stage ≡ Body) × ((frame : Framing) (octets : List ℕ) → AgreesBody frame r.body octets → GivesBody (Ok More) frame s.body octets piece)
FeedsBody (Ok (Whole used)) r s piece = SameBody r s × (s.stage ≡ End) × ((frame : Framing) (octets : List ℕ) → AgreesBody frame r.body octets → GivesBody (Ok (Whole used)) frame s.body octets piece)
FeedsBody (Err fault) r s piece = SameShown r s × ((frame : Framing) (octets : List ℕ) → AgreesBody frame r.body octets → GivesBody (Err fault) frame s.body octets piece)

-- what an answer to the first piece of a body says
abbrev pub BeginsBodyGives : {H : Type 0} → Framing → Result Progress FrameFault → MessageReader H → MessageReader H → List ℕ → Type 0
BeginsBodyGives frame (Ok More) r s piece = SameBody r s × (s.stage ≡ Body) × GivesBody (Ok More) frame s.body [] piece
BeginsBodyGives frame (Ok (Whole used)) r s piece = SameBody r s × (s.stage ≡ End) × GivesBody (Ok (Whole used)) frame s.body [] piece
BeginsBodyGives frame (Err fault) r s piece = SameShown r s × FaultsBody fault frame piece

-- the body lasts until the close
pub record IsClosed {H : Type 0} (r : MessageReader H) : Type 0 where
  pub stage_is : r.stage ≡ Body
  pub until : (frame : Framing) (octets : List ℕ) → AgreesBody frame r.body octets → frame ≡ UntilClose

-- the body that has come is whole, and the head is the same
pub record IsFrozen {H : Type 0} (r s : MessageReader H) : Type 0 where
  pub head_is : s.head ≡ r.head
  pub body_is : s.body.whole ≡ r.body.octets
