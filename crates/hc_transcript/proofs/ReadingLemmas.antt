-- What refuses the octets of a record.
use Rattle.std.proofs.Common.{◌≡◌, ◌≢◌, ◌⊎◌, Bool, List, ℕ, Result, Ok, Err, sym, subst, inl, inr}
use Rattle.std.specs.Result.{IsErrAnd}
use Rattle.hc_head.specs.declared.fault.HeadFault.{HeadFault}
use Rattle.hc_head.specs.declared.fault.HeadFault.TheVariants as heads
use Rattle.hc_head.specs.declared.head.RequestHead.{RequestHead}
use Rattle.hc_head.specs.declared.head.ResponseHead.{ResponseHead}
use Rattle.hc_head.specs.declared.head.Target.{Target}
use Rattle.hc_head.specs.declared.head.TheConstants.Room.{RECORDED}
use Rattle.hc_head.specs.Targets.{HasTarget}
use Rattle.hc_framing.specs.declared.fault.FrameFault.{FrameFault}
use Rattle.hc_framing.specs.declared.fault.FrameFault.TheVariants as frames
use Rattle.hc_framing.specs.declared.message.Message.{Message}
use Rattle.hc_framing.specs.Faults.{IsWholeRequest, IsWholeResponse}
use Rattle.hc_transcript.specs.declared.fault.RecordFault.{RecordFault}
use Rattle.hc_transcript.specs.Malformed.{IsNoRequest, LacksTarget, IsNoResponse, IsInterim}
use Rattle.hc_transcript.specs.Reading.{Refuses, message_fault, target_fault, GivesRequestRead, GivesResponseRead, found_request, found_response}

-- a fault of a message that isn't of memory says it
message_refused : (f : FrameFault) (Nothing : Type 0) → (f ≢ frames.Memory → Nothing) → Refuses (message_fault f) Nothing
message_refused frames.Memory Nothing says = tt
message_refused (frames.Head f) Nothing says = says (λ e. cc)
message_refused frames.BothLengths Nothing says = says (λ e. cc)
message_refused frames.BadLength Nothing says = says (λ e. cc)
message_refused frames.BadCoding Nothing says = says (λ e. cc)
message_refused frames.BadChunk Nothing says = says (λ e. cc)
message_refused frames.BodyTooLong Nothing says = says (λ e. cc)
message_refused frames.Truncated Nothing says = says (λ e. cc)
message_refused frames.Failed Nothing says = says (λ e. cc)

-- a fault of a target that isn't of memory says it
target_refused : (f : HeadFault) (Nothing : Type 0) → (f ≢ heads.Memory → Nothing) → Refuses (target_fault f) Nothing
target_refused heads.Memory Nothing says = tt
target_refused heads.Syntax Nothing says = says (λ e. cc)
target_refused heads.TooManyFields Nothing says = says (λ e. cc)
target_refused heads.TooLong Nothing says = says (λ e. cc)
target_refused heads.Host Nothing says = says (λ e. cc)
target_refused heads.Target Nothing says = says (λ e. cc)

-- octets that are no request
pub no_request : (octets : List ℕ) (f : FrameFault) (answer : Result (Unit {0}) RecordFault) (m : Message RequestHead) (t : Target) → IsErrAnd answer (λ g. g ≡ message_fault f)
    → ((m : Message RequestHead) → IsWholeRequest octets RECORDED m → f ≡ frames.Memory) → GivesRequestRead (found_request answer m t) octets
no_request octets f (Ok done) m t is none = absurd is
no_request octets f (Err g) m t is none =
    subst (λ (h : RecordFault). Refuses h (IsNoRequest octets ⊎ LacksTarget octets)) (sym is)
    (message_refused f (IsNoRequest octets ⊎ LacksTarget octets) (λ other. inl (λ m whole. other (none m whole))))

-- a request without a target
pub no_target : (octets : List ℕ) (m : Message RequestHead) (f : HeadFault) (answer : Result (Unit {0}) RecordFault) (t : Target) → IsErrAnd answer (λ g. g ≡ target_fault f)
    → IsWholeRequest octets RECORDED m → ((t : Target) → HasTarget m.head t → f ≡ heads.Memory) → GivesRequestRead (found_request answer m t) octets
no_target octets m f (Ok done) t is whole none = absurd is
no_target octets m f (Err g) t is whole none =
    subst (λ (h : RecordFault). Refuses h (IsNoRequest octets ⊎ LacksTarget octets)) (sym is)
    (target_refused f (IsNoRequest octets ⊎ LacksTarget octets) (λ other. inr (record { request = m; whole = whole; none = λ t has. other (none t has) })))

-- octets that are no response
pub no_response : (to_head : Bool) (octets : List ℕ) (f : FrameFault) (answer : Result (Unit {0}) RecordFault) (m : Message ResponseHead) → IsErrAnd answer (λ g. g ≡ message_fault f)
    → ((m : Message ResponseHead) → IsWholeResponse to_head octets RECORDED m → f ≡ frames.Memory) → GivesResponseRead to_head (found_response answer m) octets
no_response to_head octets f (Ok done) m is none = absurd is
no_response to_head octets f (Err g) m is none =
    subst (λ (h : RecordFault). Refuses h (IsNoResponse to_head octets ⊎ IsInterim to_head octets)) (sym is)
    (message_refused f (IsNoResponse to_head octets ⊎ IsInterim to_head octets) (λ other. inl (λ m whole. other (none m whole))))
