-- Octets are read as one item at most.
use Rattle.std.proofs.Common.{◌≡◌, ◌⊎◌, ℕ, Bool, List, Ok, sym, ap, subst, ◌∙◌, arith, inl, inr}
use Rattle.hc_head.specs.declared.head.RequestHead.{RequestHead}
use Rattle.hc_head.specs.declared.head.ResponseHead.{ResponseHead}
use Rattle.hc_head.specs.declared.head.Target.{Target}
use Rattle.hc_head.specs.declared.head.TheConstants.Room.{RECORDED}
use Rattle.hc_head.specs.Targets.{HasTarget}
use Rattle.hc_head.proofs.TargetLemmas.{one_target}
use Rattle.hc_framing.specs.declared.kind.Kind.TheVariants.{Request, Response}
use Rattle.hc_framing.specs.declared.message.Message.{Message}
use Rattle.hc_framing.specs.Messages.{request_form, response_form}
use Rattle.hc_framing.specs.Faults.{IsWholeRequest, IsWholeResponse}
use Rattle.hc_framing.specs.FramingLaws.{request_laws, response_laws}
use Rattle.hc_framing.proofs.ReaderLemmas.{finds_whole}
use Rattle.hc_transcript.specs.declared.line.Kind.{Kind}
use Rattle.hc_transcript.specs.declared.line.Kind.TheVariants as kind
use Rattle.hc_transcript.specs.declared.line.ToldCause.{ToldCause}
use Rattle.hc_transcript.specs.Records.{exchange_told}
use Rattle.hc_transcript.specs.Items.{Item, ClientRequest, OriginRequest, OriginResponse, ClientReply}
use Rattle.hc_transcript.specs.Transcript.{ReadsRequest, ReadsResponse, IsItemOf}
use Rattle.hc_transcript.specs.Malformed.{IsNoRequest, LacksTarget, IsNoResponse, IsInterim, IsNoMessage}

-- octets are one request at most
one_request : (octets : List ℕ) (m n : Message RequestHead) → IsWholeRequest octets RECORDED m → IsWholeRequest octets RECORDED n → m ≡ n
one_request octets m n = finds_whole request_form request_laws Request octets RECORDED (Ok m) n

-- octets are one response at most
one_response : (to_head : Bool) (octets : List ℕ) (m n : Message ResponseHead) → IsWholeResponse to_head octets RECORDED m → IsWholeResponse to_head octets RECORDED n → m ≡ n
one_response to_head octets m n =
    finds_whole response_form response_laws (Response to_head) octets RECORDED (Ok m) n

one_request_read : (octets : List ℕ) (m n : Message RequestHead) (s t : Target) → ReadsRequest octets m s → ReadsRequest octets n t → (m ≡ n) × (s ≡ t)
one_request_read octets m n s t p q =
    let same : m ≡ n = one_request octets m n p.whole q.whole in
    (same, one_target n.head s t (subst (λ (r : Message RequestHead). HasTarget r.head s) same p.target_is) q.target_is)

pub one_item : (k : Kind) (cause : ToldCause) (number moment : ℕ) (to_head : Bool) (octets : List ℕ) (item other : Item) → IsItemOf k cause number moment to_head octets item → IsItemOf k cause number moment to_head octets other
    → item ≡ other
one_item kind.ClientRequest cause number moment to_head octets item other p q =
    let same = one_request_read octets p.0 q.0 p.1 q.1 p.2 q.2 in
    p.3 ∙ (λ i. ClientRequest number moment (same.0 i) (same.1 i)) ∙ sym q.3
one_item kind.OriginRequest cause number moment to_head octets item other p q =
    let same = one_request_read octets p.0 q.0 p.1 q.1 p.2 q.2 in
    p.3 ∙ (λ i. OriginRequest number moment (same.0 i) (same.1 i) (exchange_told cause)) ∙ sym q.3
one_item kind.OriginResponse cause number moment to_head octets item other p q =
    p.2 ∙ ap (OriginResponse number moment) (one_response to_head octets p.0 q.0 p.1.whole q.1.whole) ∙ sym q.2
one_item kind.OriginFailure cause number moment to_head octets item other p q = p ∙ sym q
one_item kind.ClientReply cause number moment to_head octets item other p q =
    p.2 ∙ ap (ClientReply number moment) (one_response to_head octets p.0 q.0 p.1.whole q.1.whole) ∙ sym q.2

no_request_read : (octets : List ℕ) (m : Message RequestHead) (t : Target) → IsNoRequest octets ⊎ LacksTarget octets → ReadsRequest octets m t → ⊥
no_request_read octets m t (inl none) reads = none m reads.whole
no_request_read octets m t (inr lacks) reads =
    lacks.none t (subst (λ (r : Message RequestHead). HasTarget r.head t) (one_request octets m lacks.request reads.whole lacks.whole) reads.target_is)

no_response_read : (to_head : Bool) (octets : List ℕ) (m : Message ResponseHead) → IsNoResponse to_head octets ⊎ IsInterim to_head octets → ReadsResponse to_head octets m → ⊥
no_response_read to_head octets m (inl none) reads = none m reads.whole
no_response_read to_head octets m (inr interim) reads =
    omega (arith, interim.low, reads.is_final, ap (λ (r : Message ResponseHead). r.head.status) (one_response to_head octets m interim.response reads.whole interim.whole))

pub no_item : (k : Kind) (cause : ToldCause) (number moment : ℕ) (to_head : Bool) (octets : List ℕ) (item : Item) → IsNoMessage k to_head octets → IsItemOf k cause number moment to_head octets item → ⊥
no_item kind.ClientRequest cause number moment to_head octets item none p = no_request_read octets p.0 p.1 none p.2
no_item kind.OriginRequest cause number moment to_head octets item none p = no_request_read octets p.0 p.1 none p.2
no_item kind.OriginResponse cause number moment to_head octets item none p = no_response_read to_head octets p.0 none p.1
no_item kind.OriginFailure cause number moment to_head octets item none p = none
no_item kind.ClientReply cause number moment to_head octets item none p = no_response_read to_head octets p.0 none p.1
