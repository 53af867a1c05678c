-- The head of a response is read in one way, whatever follows it.
use Rattle.std.proofs.Common.{◌≡◌, ℕ, ◌≤◌, true, false, List, ◌++◌, length, take, drop, map, refl, sym, ap, subst, ◌∙◌, arith, length-take}
use Rattle.std.proofs.lemmas.List.{take-append-drop, length-map}
use Rattle.httparse.specs.declared.spans.HeaderSpan.{HeaderSpan}
use Rattle.httparse.specs.declared.spans.ResponseSpans.{ResponseSpans}
use Rattle.httparse.specs.Grammar
use Rattle.httparse.specs.Grammar.{ResponseHead as SyntaxTree, ReadsResponse, print_response, print_version, print_reason, print_end, print_section, print_blank, status_code, MayBecomeResponse}
use Rattle.httparse.specs.Spans.{header_bytes, name_and_value, IsResponseAt, IsResponseOf, IsResponseWithin, ResponseOverflows}
use Rattle.httparse.proofs.GrammarLemmas.{response_prefix_free}
use Rattle.hc_head.specs.declared.head.ResponseHead.{ResponseHead}
use Rattle.hc_head.specs.declared.head.Room.{Room}
use Rattle.hc_head.specs.Heads.{field_at, field_of, version_of, response_head_of, response_field_count, BeginsResponseHead}
-- other names of its laws
pub use Rattle.hc_head.specs.Laws.{response_goes_on as begins-append, response_within as begins_within, response_some as begins_some, response_front as begins-take}
use Rattle.hc_head.specs.declared.responses.FoundResponse.{FoundResponse}
use Rattle.hc_head.specs.Places.{covered_response}
use Rattle.hc_head.specs.Reading.{IsWholeHead, HasNoHead, NeverHasHead, HasManyFields, CanBecomeHead}
use Rattle.hc_head.specs.Statuses.{IsStatus}
use Rattle.hc_head.specs.Unfinished.{has_low_status}
use Rattle.hc_head.proofs.DigitLemmas.{status_small}
use Rattle.hc_head.proofs.PlaceLemmas.{response_in_front}
use Rattle.hc_head.proofs.ReadingLemmas.{fields_same}
use Rattle.hc_head.proofs.UnfinishedLemmas.{never_response, can_response}

-- ---- from the spans to the head

pub head_same : (octets : List ℕ) (spans : List HeaderSpan) (found : ResponseSpans) (syntax : SyntaxTree) (head : ResponseHead)
    → IsResponseAt octets spans found syntax
    → head.status ≡ found.code
    → head.version ≡ version_of found.version → head.fields ≡ map (field_at octets) (take found.headers spans)
    → head ≡ response_head_of syntax
head_same octets spans found syntax head at status version fields =
    let status-is = status ∙ at.code in
    let version-is = version ∙ ap version_of at.version in
    let fields-is = fields ∙ fields_same octets (take found.headers spans) syntax.fields at.fields in
    λ i. record { status = status-is i; version = version-is i; fields = fields-is i }

-- what the spans cover, in all octets, is the head that the front of them writes
pub response_covered : (octets front : List ℕ) (n : ℕ) (spans : List HeaderSpan) (found : FoundResponse) → front ≡ take n octets → IsResponseWithin front spans found.spans
    → found.status ≡ found.spans.code
    → (syntax : SyntaxTree) → IsResponseAt front spans found.spans syntax → covered_response octets spans found ≡ response_head_of syntax
response_covered octets front n spans found front-is within status syntax at =
    response_in_front octets n spans found (subst (λ (o : List ℕ). IsResponseWithin o spans found.spans) front-is within)
    ∙ ap (λ (o : List ℕ). covered_response o spans found) (sym front-is)
    ∙ head_same front spans found.spans syntax (covered_response front spans found) at status refl refl

-- ---- laws of the relation

pub begins_from_take : (octets : List ℕ) (m : ℕ) (h : ResponseHead) (n : ℕ) → BeginsResponseHead (take m octets) h n → BeginsResponseHead octets h n
begins_from_take octets m h n p =
    subst (λ (o : List ℕ). BeginsResponseHead o h n) (take-append-drop m octets) (begins-append (take m octets) (drop m octets) h n p)

-- ---- where the answers of a reader stand

pub whole_head : (octets front : List ℕ) (room : Room) (spans : List HeaderSpan) (found : ResponseSpans) (head : ResponseHead)
    → front ≡ take room.octets octets → length spans ≡ room.fields → IsResponseWithin front spans found → IsResponseOf front spans found
    → ((syntax : SyntaxTree) → IsResponseAt front spans found syntax → head ≡ response_head_of syntax)
    → 100 ≤ head.status
    → IsWholeHead BeginsResponseHead response_field_count octets room head found.len
whole_head octets front room spans found head front-is full within of head-is has-status =
    let syntax = of.0 in
    let at = of.1 in
    let same = head-is syntax at in
    let begins : BeginsResponseHead front head found.len = record { syntax = syntax; rest = drop found.len front; reads = at.reads; len_is = at.len; head_is = same; has_status = has-status } in
    let begins' = subst (λ (o : List ℕ). BeginsResponseHead o head found.len) front-is begins in
    record {
      begins = begins_from_take octets room.octets head found.len begins';
      octets_fit = omega (arith, within.section.len_fits, ap length front-is, length-take room.octets octets);
      fields_fit =
          omega (arith, ap response_field_count same, length-map syntax.fields field_of, ap length at.fields, length-map (take found.headers spans) (header_bytes front), length-map syntax.fields name_and_value, length-take found.headers spans);
    }

-- no head in the grammar, so none at all
no_head : (octets : List ℕ) → Grammar.HasNoResponse octets → (head : ResponseHead) (len : ℕ) → ¬ (BeginsResponseHead octets head len)
no_head octets none head len begins = none begins.syntax begins.rest begins.reads

pub no_head_in_room : (octets front : List ℕ) (room : Room) → front ≡ take room.octets octets → Grammar.HasNoResponse front
    → HasNoHead BeginsResponseHead response_field_count octets room
no_head_in_room octets front room front-is none head len le begins =
    no_head front none head len
    (subst (λ (o : List ℕ). BeginsResponseHead o head len) (sym front-is) (begins-take octets room.octets head len le begins))

pub many_fields : (octets front : List ℕ) (room : Room) (limit : ℕ) → front ≡ take room.octets octets → limit ≡ room.fields → ResponseOverflows limit front
    → HasManyFields BeginsResponseHead response_field_count octets room
many_fields octets front room limit front-is limit-is over more head len begins =
    let many = over more begins.syntax begins.rest (subst (λ (o : List ℕ). ReadsResponse (o ++ more) begins.syntax begins.rest) (sym front-is) begins.reads) in
    omega (arith, many, ap response_field_count begins.head_is, length-map begins.syntax.fields field_of, limit-is)

-- a number that is no status makes no head, whatever follows
pub no_status : (octets front : List ℕ) (room : Room) (spans : List HeaderSpan) (found : ResponseSpans)
    → front ≡ take room.octets octets → IsResponseOf front spans found → ¬ (IsStatus found.code)
    → NeverHasHead BeginsResponseHead response_field_count octets room
no_status octets front room spans found front-is of none more head len begins =
    let at = of.1 in
    let small = status_small of.0 at.reads.0 in
    let begins' = subst (λ (o : List ℕ). BeginsResponseHead (o ++ more) head len) (sym front-is) begins in
    let same = response_prefix_free front more of.0 begins'.syntax (drop found.len front) begins'.rest at.reads begins'.reads in
    let least : 100 ≤ found.code = omega (arith, at.code, ap status_code same.0, ap (λ (h : ResponseHead). h.status) begins'.head_is, begins'.has_status) in
    let greatest : found.code ≤ 999 = omega (arith, at.code, small) in
    none (least, greatest)

-- a status that begins with 0 makes none either
pub low_status : (octets front : List ℕ) (room : Room) → front ≡ take room.octets octets → has_low_status front ≡ true
    → NeverHasHead BeginsResponseHead response_field_count octets room
low_status octets front room front-is low more head len begins =
    never_response front low more head len (subst (λ (o : List ℕ). BeginsResponseHead (o ++ more) head len) (sym front-is) begins)

pub may_become : (octets front : List ℕ) (room : Room) → front ≡ take room.octets octets → MayBecomeResponse front → has_low_status front ≡ false
    → CanBecomeHead BeginsResponseHead (take room.octets octets)
may_become octets front room front-is may status =
    subst (CanBecomeHead BeginsResponseHead) front-is (can_response front may status)
