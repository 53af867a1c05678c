-- Plumbing: what the functions that read a record's octets answer.
use Rattle.std.specs.Prelude.{ℕ, ◌⊎◌, Bool, List, Option, Some, None, Result, Ok, Err}
use Rattle.hc_head.specs.declared.fault.HeadFault.{HeadFault}
use Rattle.hc_head.specs.declared.fault.HeadFault.TheVariants as heads
use Rattle.hc_head.specs.declared.head.RequestHead.{RequestHead}
use Rattle.hc_head.specs.declared.head.ResponseHead.{ResponseHead}
use Rattle.hc_head.specs.declared.head.Target.{Target}
use Rattle.hc_framing.specs.declared.fault.FrameFault.{FrameFault}
use Rattle.hc_framing.specs.declared.fault.FrameFault.TheVariants as frames
use Rattle.hc_framing.specs.declared.message.Message.{Message}
use Rattle.hc_transcript.specs.declared.fault.RecordFault.{RecordFault}
use Rattle.hc_transcript.specs.declared.fault.RecordFault.TheVariants as fault
use Rattle.hc_transcript.specs.declared.format.Format.{Format}
use Rattle.hc_transcript.specs.declared.framed.Framed.{Framed}
use Rattle.hc_transcript.specs.declared.line.Kind.{Kind}
use Rattle.hc_transcript.specs.declared.line.Kind.TheVariants as kind
use Rattle.hc_transcript.specs.declared.line.Line.{Line}
use Rattle.hc_transcript.specs.declared.places.RecordPlaces.{RecordPlaces}
use Rattle.hc_framing.specs.Places.{request_at, response_at}
use Rattle.hc_transcript.specs.Items.{Item, ClientRequest, OriginRequest, OriginResponse, OriginFailure, ClientReply}
use Rattle.hc_transcript.specs.Records.{exchange_told}
use Rattle.hc_transcript.specs.Transcript.{ReadsRequest, ReadsResponse, IsItemOf}
use Rattle.hc_transcript.specs.Malformed.{IsFramed, IsUnfinished, BreaksLine, IsNoRequest, LacksTarget, IsNoResponse, IsInterim, IsNoMessage}

-- a fault of a message as one of its record
abbrev pub message_fault : FrameFault → RecordFault
message_fault frames.Memory = fault.Memory
message_fault f = fault.Message

-- a fault of a target as one of its record
abbrev pub target_fault : HeadFault → RecordFault
target_fault heads.Memory = fault.Memory
target_fault f = fault.Message

-- the record at the front of octets: each answer stands only where this says so
abbrev pub GivesFrame : Format → (Line → Option RecordFault) → Result (Option Framed) RecordFault → List ℕ → Type 0
GivesFrame format check (Ok (Some f)) octets = IsFramed format check octets f.line f.message.now f.len
GivesFrame format check (Ok None) octets = IsUnfinished format check octets
GivesFrame format check (Err f) octets = BreaksLine format check f octets

-- what a fault of a message says: the octets are no message of the record, or memory ran out
abbrev pub Refuses : RecordFault → Type 0 → Type 0
Refuses fault.Message Nothing = Nothing
Refuses fault.Memory Nothing = Unit {0}
Refuses f Nothing = ⊥

-- each answer stands only where this says so
abbrev pub GivesRequestRead : Result (Message RequestHead × Target) RecordFault → List ℕ → Type 0
GivesRequestRead (Ok r) octets = ReadsRequest octets r.0 r.1
GivesRequestRead (Err f) octets = Refuses f (IsNoRequest octets ⊎ LacksTarget octets)

abbrev pub GivesResponseRead : Bool → Result (Message ResponseHead) RecordFault → List ℕ → Type 0
GivesResponseRead to_head (Ok response) octets = ReadsResponse to_head octets response
GivesResponseRead to_head (Err f) octets = Refuses f (IsNoResponse to_head octets ⊎ IsInterim to_head octets)

-- the request, or the response, in place of the unit, where it was found
abbrev pub found_request : Result (Unit {0}) RecordFault → Message RequestHead → Target → Result (Message RequestHead × Target) RecordFault
found_request (Ok done) request target = Ok (request, target)
found_request (Err f) request target = Err f

abbrev pub found_response : Result (Unit {0}) RecordFault → Message ResponseHead → Result (Message ResponseHead) RecordFault
found_response (Ok done) response = Ok response
found_response (Err f) response = Err f

-- what stands there in the octets of a record with that line
abbrev pub item_by : Kind → RecordPlaces → Line → List ℕ → Item
item_by kind.ClientRequest p l octets = ClientRequest l.number l.moment (request_at p.places octets) p.target
item_by kind.OriginRequest p l octets = OriginRequest l.number l.moment (request_at p.places octets) p.target (exchange_told l.cause)
item_by kind.OriginResponse p l octets = OriginResponse l.number l.moment (response_at p.places octets)
item_by kind.OriginFailure p l octets = OriginFailure l.number l.moment
item_by kind.ClientReply p l octets = ClientReply l.number l.moment (response_at p.places octets)

abbrev pub item_at : RecordPlaces → Line → List ℕ → Item
item_at p l octets = item_by l.kind p l octets

-- what the answer says where the item stands there
abbrev pub GivesItem : Line → Bool → List ℕ → Result (Unit {0}) RecordFault → Item → Type 0
GivesItem l to_head octets (Ok done) item = IsItemOf l.kind l.cause l.number l.moment to_head octets item
GivesItem l to_head octets (Err f) item = Refuses f (IsNoMessage l.kind to_head octets)
