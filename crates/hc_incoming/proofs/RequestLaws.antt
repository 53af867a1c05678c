-- Octets of a client connection are one thing.
use Rattle.std.proofs.Common.{◌≡◌, ℕ, true, false, List, [], ◌++◌, append-nil, Result, Ok, Err, rules, sym, subst, ◌∙◌, inl, inr}
use Rattle.std.specs.declared.alloc.AllocError.{AllocError}
use Rattle.hc_head.specs.declared.head.RequestHead.{RequestHead}
use Rattle.hc_head.specs.declared.head.Target.{Target}
use Rattle.hc_head.specs.declared.head.TheConstants.Room.{RECEIVED}
use Rattle.hc_head.proofs.TargetLemmas.{one_target}
use Rattle.hc_framing.specs.declared.kind.Kind.TheVariants.{Request}
use Rattle.hc_framing.specs.declared.message.Message.{Message}
use Rattle.hc_framing.specs.FramingLaws.{request_laws}
use Rattle.hc_framing.specs.Messages.{request_form}
use Rattle.hc_framing.proofs.ReaderLemmas.{fault_has_none}
use Rattle.hc_incoming.proofs.BeginningLemmas.{begins_on, in_time_has_none, one_begins}
use Rattle.hc_incoming.proofs.HeadLemmas.{refused_for}
use Rattle.hc_incoming.proofs.RequestLemmas.{one_head}
use Rattle.hc_incoming.specs.Troubles.{refusal_status}
use Rattle.hc_incoming.specs.declared.arrival.RequestArrival.{RequestArrival}
use Rattle.hc_incoming.specs.declared.arrival.RequestArrival.TheVariants as arrivals
use Rattle.hc_incoming.specs.declared.requests.RequestReader.{RequestReader}
use Rattle.hc_incoming.specs.Requests.{HasHead, IsServed, IsUnserved, IsRequest, IsRefused, FailsTest, IsUnfinished}
use Rattle.hc_incoming.specs.RequestReading.{FindsRequest, GivesNext}

-- one request begins octets, whatever follows
pub one_request : (octets more : List ℕ) (message other : Message RequestHead) (target other_target : Target) (m n : ℕ) → IsRequest octets message target m
    → IsRequest (octets ++ more) other other_target n → (message ≡ other) × (target ≡ other_target) × (m ≡ n)
one_request octets more message other target other_target m n p q =
    let same = one_begins request_form request_laws Request RECEIVED octets more message other m n p.begins q.begins in (
      same.0,
      one_target other.head target other_target (subst (λ (x : Message RequestHead). IsServed x.head target) same.0 p.served).asks_for q.served.asks_for,
      same.1,
    )

-- a whole request stays one, whatever follows
pub request_goes_on : (octets more : List ℕ) (message : Message RequestHead) (target : Target) (len : ℕ) → IsRequest octets message target len → IsRequest (octets ++ more) message target len
request_goes_on octets more message target len p =
    record { begins = begins_on request_form request_laws Request RECEIVED octets more message len p.begins; served = p.served }

-- its head has come
request_head : (octets : List ℕ) (message : Message RequestHead) (target : Target) (len : ℕ) → IsRequest octets message target len → HasHead octets message.head
request_head octets message target len p = record {
  head = p.begins.begins.head;
  len = p.begins.begins.head_len;
  begins = record { begins = p.begins.begins.begins; octets_fit = p.begins.octets_fit; fields_fit = p.begins.fields_fit };
  frame = p.begins.begins.frame;
  framed = p.begins.begins.framed;
  shown_is = p.begins.begins.head_is;
}

-- a head that is served isn't refused
served_or_not : (head : RequestHead) (target : Target) (status : ℕ) → IsServed head target → IsUnserved head status → ⊥
served_or_not head target status served (inl u) = u.none target served.asks_for
served_or_not head target status served (inr u) = both (sym u.expects_some ∙ served.expects_nothing)
  where
    both : true ≡ false → ⊥
    both same = search (rules, same)

-- a whole request isn't refused
pub request_not_refused : (octets : List ℕ) (message : Message RequestHead) (target : Target) (len status : ℕ) → IsRequest octets message target len → IsRefused octets status → ⊥
request_not_refused octets message target len status p (inl f) =
    f.not_memory (fault_has_none request_form request_laws Request octets RECEIVED message len f.fault p.begins f.stands)
request_not_refused octets message target len status p (inr f) =
    served_or_not message.head target status p.served
    (subst (λ (h : RequestHead). IsUnserved h status) (one_head octets f.head message.head f.has_come (request_head octets message target len p)) f.unserved)

-- nor unfinished
pub request_not_unfinished : (octets : List ℕ) (message : Message RequestHead) (target : Target) (len : ℕ) → IsRequest octets message target len → IsUnfinished octets → ⊥
request_not_unfinished octets message target len p u =
    in_time_has_none request_form request_laws Request RECEIVED octets message len u.in_time p.begins

-- a head that fails a test isn't waited on
pub failed_not_unfinished : (octets : List ℕ) (status : ℕ) → FailsTest octets status → IsUnfinished octets → ⊥
failed_not_unfinished octets status f u = let passes = u.passes f.head f.has_come in served_or_not f.head passes.0 status passes.1 f.unserved

-- a whole request that is there is found
pub finds_request : (result : Result RequestArrival AllocError) (r : RequestReader) (octets : List ℕ) (message : Message RequestHead) (target : Target) (len : ℕ) → GivesNext result r octets
    → IsRequest octets message target len → FindsRequest result message target
finds_request (Ok (arrivals.Request found found_target)) r octets message target len gives p =
    let same = one_request octets [] found message found_target target gives.len len gives.is_request (subst (λ (o : List ℕ). IsRequest o message target len) (sym (append-nil octets)) p) in
    (same.0, same.1)
finds_request (Ok (arrivals.Refused trouble)) r octets message target len gives p =
    request_not_refused octets message target len (refusal_status trouble) p (refused_for octets trouble gives)
finds_request (Ok arrivals.More) r octets message target len gives p = request_not_unfinished octets message target len p gives.0
finds_request (Err e) r octets message target len gives p = tt
