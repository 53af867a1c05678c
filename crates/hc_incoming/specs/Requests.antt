-- What arrives on a client connection: what the octets behind the last whole request are, as far as they have come (RFC 9112).
use Rattle.std.specs.Prelude.{◌≡◌, ◌≢◌, ℕ, ◌⊎◌, Bool, ◌&&◌, not, true, false, List, codes}
use Rattle.hc_fields.specs.Values.{has_name}
use Rattle.hc_head.specs.declared.fault.HeadFault.TheVariants as heads
use Rattle.hc_head.specs.declared.head.RequestHead.{RequestHead}
use Rattle.hc_head.specs.declared.head.Target.{Target}
use Rattle.hc_head.specs.declared.head.TheConstants.Room.{RECEIVED}
use Rattle.hc_head.specs.Targets.{HasTarget}
use Rattle.hc_framing.specs.declared.fault.FrameFault.{FrameFault}
use Rattle.hc_framing.specs.declared.fault.FrameFault.TheVariants as faults
use Rattle.hc_framing.specs.declared.kind.Kind.TheVariants.{Request}
use Rattle.hc_framing.specs.declared.message.Message.{Message}
use Rattle.hc_framing.specs.Faults.{StandsIn, StandsAtEnd}
use Rattle.hc_framing.specs.Framing.{is_http10}
use Rattle.hc_framing.specs.Messages.{request_form}
use Rattle.hc_framing.specs.Reader.{BeginsIn, IsHeadOf, IsInTime}

-- ---- the tests of a head that has come, in their order: Host, target, Expect

-- the client waits for an interim response before it sends the body (RFC 9110 section 10.1.1); HTTP/1.0 has no such field
abbrev pub expects : RequestHead → Bool
expects head = not (is_http10 head.version) && has_name (codes "expect") head.fields

-- the head asks for that target, and expects nothing
pub record IsServed (head : RequestHead) (target : Target) : Type 0 where
  pub asks_for : HasTarget head target
  pub expects_nothing : expects head ≡ false

-- its Host line or its target is wrong, so that it asks for nothing of this origin (RFC 9112 sections 3.2 and 3.3)
pub record HasNoTarget (head : RequestHead) (status : ℕ) : Type 0 where
  pub none : (target : Target) → ¬ (HasTarget head target)
  pub status_is : status ≡ 400

-- it asks for a target, and expects something (RFC 9110 section 10.1.1)
pub record ExpectsSomething (head : RequestHead) (status : ℕ) : Type 0 where
  pub target : Target
  pub asks_for : HasTarget head target
  pub expects_some : expects head ≡ true
  pub status_is : status ≡ 417

-- the head is refused with the status
abbrev pub IsUnserved : RequestHead → ℕ → Type 0
IsUnserved head status = HasNoTarget head status ⊎ ExpectsSomething head status

-- ---- what the octets are

-- a head has come, whose fields frame a body: the octets begin with it, and this is what it is without those fields
abbrev pub HasHead : List ℕ → RequestHead → Type 0
HasHead octets head = IsHeadOf request_form Request RECEIVED octets head

-- the head passes its tests, if it has come
abbrev pub PassesTests : List ℕ → Type 0
PassesTests octets = (head : RequestHead) → HasHead octets head → (target : Target) × IsServed head target

-- a whole request for that target begins the octets, and takes so many of them
pub record IsRequest (octets : List ℕ) (message : Message RequestHead) (target : Target) (len : ℕ) : Type 0 where
  pub begins : BeginsIn request_form Request octets RECEIVED message len
  pub served : IsServed message.head target

-- the status that answers a fault (RFC 9110 sections 15.5.1, 15.5.14 and 15.6.2, RFC 6585 section 5)
abbrev pub fault_status : FrameFault → ℕ
fault_status (faults.Head heads.TooManyFields) = 431
fault_status (faults.Head heads.TooLong) = 431
fault_status faults.BodyTooLong = 413
fault_status faults.BadCoding = 501
fault_status _ = 400

-- a fault stands in the head, in the fields that frame the body, or in the body of a head that passes its tests; of several in the head any may be told
pub record IsFaulty (octets : List ℕ) (status : ℕ) : Type 0 where
  pub fault : FrameFault
  pub not_memory : fault ≢ faults.Memory
  pub stands : StandsIn request_form Request fault octets RECEIVED
  pub passes : PassesTests octets
  pub status_is : status ≡ fault_status fault

-- a head has come that fails a test
pub record FailsTest (octets : List ℕ) (status : ℕ) : Type 0 where
  pub head : RequestHead
  pub has_come : HasHead octets head
  pub unserved : IsUnserved head status

-- the octets are refused with the status, whatever follows them
abbrev pub IsRefused : List ℕ → ℕ → Type 0
IsRefused octets status = IsFaulty octets status ⊎ FailsTest octets status

-- nothing yet: the head may still come, or it has come and passes its tests, and the body is so far within the syntax, line by line
pub record IsUnfinished (octets : List ℕ) : Type 0 where
  pub in_time : IsInTime request_form Request RECEIVED octets
  pub passes : PassesTests octets

-- ---- the client's end

-- a request has begun, or nothing has, and is cut off
pub record IsCutOff (octets : List ℕ) : Type 0 where
  pub cut : StandsAtEnd request_form Request faults.Truncated octets RECEIVED
  pub passes : PassesTests octets

-- a whole request waits
pub record HasRequest (octets : List ℕ) : Type 0 where
  pub message : Message RequestHead
  pub target : Target
  pub len : ℕ
  pub is_request : IsRequest octets message target len

-- the octets are given up with the connection, without a reply
abbrev pub IsGivenUp : List ℕ → Type 0
IsGivenUp octets = HasRequest octets ⊎ IsCutOff octets
