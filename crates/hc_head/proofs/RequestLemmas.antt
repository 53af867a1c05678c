-- The head of a request is read in one way, whatever follows it.
use Rattle.std.proofs.Common.{◌≡◌, ℕ, List, ◌++◌, length, take, drop, map, refl, sym, ap, subst, ◌∙◌, arith, length-take}
use Rattle.std.proofs.lemmas.List.{take-append-drop, length-map}
use Rattle.httparse.specs.declared.spans.HeaderSpan.{HeaderSpan}
use Rattle.httparse.specs.declared.spans.RequestSpans.{RequestSpans}
use Rattle.httparse.specs.Grammar
use Rattle.httparse.specs.Grammar.{RequestHead as SyntaxTree, ReadsRequest, print_request, MayBecomeRequest}
use Rattle.httparse.specs.Spans.{header_bytes, name_and_value, span_bytes, IsRequestAt, IsRequestOf, IsRequestWithin, RequestOverflows}
use Rattle.hc_head.specs.declared.head.RequestHead.{RequestHead}
use Rattle.hc_head.specs.declared.head.Room.{Room}
use Rattle.hc_head.specs.Heads.{field_at, field_of, version_of, request_head_of, request_field_count, BeginsRequestHead}
-- other names of its laws
pub use Rattle.hc_head.specs.Laws.{request_goes_on as begins-append, request_within as begins_within, request_some as begins_some, request_front as begins-take}
use Rattle.hc_head.specs.Reading.{IsWholeHead, HasNoHead, NeverHasHead, HasManyFields, CanBecomeHead}
use Rattle.hc_head.specs.Places.{covered_request}
use Rattle.hc_head.specs.Unfinished.{HasHopelessTarget, MayHaveTarget}
use Rattle.hc_head.proofs.PlaceLemmas.{request_in_front}
use Rattle.hc_head.proofs.ReadingLemmas.{fields_same}
use Rattle.hc_head.proofs.UnfinishedLemmas.{never_request, can_request}

-- ---- from the spans to the head

pub head_same : (octets : List ℕ) (spans : List HeaderSpan) (found : RequestSpans) (syntax : SyntaxTree) (head : RequestHead)
    → IsRequestAt octets spans found syntax
    → head.method ≡ span_bytes octets found.method → head.target ≡ span_bytes octets found.path
    → head.version ≡ version_of found.version → head.fields ≡ map (field_at octets) (take found.headers spans)
    → head ≡ request_head_of syntax
head_same octets spans found syntax head at method target version fields =
    let method-is = method ∙ at.method in
    let target-is = target ∙ at.path in
    let version-is = version ∙ ap version_of at.version in
    let fields-is = fields ∙ fields_same octets (take found.headers spans) syntax.fields at.fields in
    λ i. record { method = method-is i; target = target-is i; version = version-is i; fields = fields-is i }

-- what the spans cover, in all octets, is the head that the front of them writes
pub request_covered : (octets front : List ℕ) (n : ℕ) (spans : List HeaderSpan) (found : RequestSpans) → front ≡ take n octets → IsRequestWithin front spans found
    → (syntax : SyntaxTree) → IsRequestAt front spans found syntax → covered_request octets spans found ≡ request_head_of syntax
request_covered octets front n spans found front-is within syntax at =
    request_in_front octets n spans found (subst (λ (o : List ℕ). IsRequestWithin o spans found) front-is within)
    ∙ ap (λ (o : List ℕ). covered_request o spans found) (sym front-is)
    ∙ head_same front spans found syntax (covered_request front spans found) at refl refl refl refl

-- ---- laws of the relation

pub begins_from_take : (octets : List ℕ) (m : ℕ) (h : RequestHead) (n : ℕ) → BeginsRequestHead (take m octets) h n → BeginsRequestHead octets h n
begins_from_take octets m h n p =
    subst (λ (o : List ℕ). BeginsRequestHead o h n) (take-append-drop m octets) (begins-append (take m octets) (drop m octets) h n p)

-- ---- where the answers of a reader stand

pub whole_head : (octets front : List ℕ) (room : Room) (spans : List HeaderSpan) (found : RequestSpans) (head : RequestHead)
    → front ≡ take room.octets octets → length spans ≡ room.fields → IsRequestWithin front spans found → IsRequestOf front spans found
    → ((syntax : SyntaxTree) → IsRequestAt front spans found syntax → head ≡ request_head_of syntax)
    → IsWholeHead BeginsRequestHead request_field_count octets room head found.len
whole_head octets front room spans found head front-is full within of head-is =
    let syntax = of.0 in
    let at = of.1 in
    let same = head-is syntax at in
    let begins : BeginsRequestHead front head found.len = record { syntax = syntax; rest = drop found.len front; reads = at.reads; len_is = at.len; head_is = same } in
    let begins' = subst (λ (o : List ℕ). BeginsRequestHead o head found.len) front-is begins in
    record {
      begins = begins_from_take octets room.octets head found.len begins';
      octets_fit = omega (arith, within.section.len_fits, ap length front-is, length-take room.octets octets);
      fields_fit =
          omega (arith, ap request_field_count same, length-map syntax.fields field_of, ap length at.fields, length-map (take found.headers spans) (header_bytes front), length-map syntax.fields name_and_value, length-take found.headers spans);
    }

-- no head in the grammar, so none at all
no_head : (octets : List ℕ) → Grammar.HasNoRequest octets → (head : RequestHead) (len : ℕ) → ¬ (BeginsRequestHead octets head len)
no_head octets none head len begins = none begins.syntax begins.rest begins.reads

pub no_head_in_room : (octets front : List ℕ) (room : Room) → front ≡ take room.octets octets → Grammar.HasNoRequest front
    → HasNoHead BeginsRequestHead request_field_count octets room
no_head_in_room octets front room front-is none head len le begins =
    no_head front none head len
    (subst (λ (o : List ℕ). BeginsRequestHead o head len) (sym front-is) (begins-take octets room.octets head len le begins))

pub many_fields : (octets front : List ℕ) (room : Room) (limit : ℕ) → front ≡ take room.octets octets → limit ≡ room.fields → RequestOverflows limit front
    → HasManyFields BeginsRequestHead request_field_count octets room
many_fields octets front room limit front-is limit-is over more head len begins =
    let many = over more begins.syntax begins.rest (subst (λ (o : List ℕ). ReadsRequest (o ++ more) begins.syntax begins.rest) (sym front-is) begins.reads) in
    omega (arith, many, ap request_field_count begins.head_is, length-map begins.syntax.fields field_of, limit-is)

-- a target that is no text makes no head, whatever follows
pub no_text : (octets front : List ℕ) (room : Room) → front ≡ take room.octets octets → HasHopelessTarget front
    → NeverHasHead BeginsRequestHead request_field_count octets room
no_text octets front room front-is hopeless more head len begins =
    let begins' = subst (λ (o : List ℕ). BeginsRequestHead (o ++ more) head len) (sym front-is) begins in
    never_request front hopeless more begins'.syntax begins'.rest begins'.reads

pub may_become : (octets front : List ℕ) (room : Room) → front ≡ take room.octets octets → MayBecomeRequest front → MayHaveTarget front
    → CanBecomeHead BeginsRequestHead (take room.octets octets)
may_become octets front room front-is may target =
    subst (CanBecomeHead BeginsRequestHead) front-is (can_request front may target)
