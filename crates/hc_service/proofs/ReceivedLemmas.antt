-- What is received can be recorded and passed on.
use Rattle.std.proofs.Common.{◌≡◌, ℕ, ◌≤◌, ◌<◌, Bool, true, false, ◌&&◌, cond, List, [], ◌∷◌, length, drop, Option, Some, None, Ok, Err, refl, sym, ap, subst, arith}
use Rattle.std.specs.Prelude.{Result, nat_lt, not, ok_or, codes, flat_map, if◌then◌else◌}
use Rattle.std.specs.List.{list_all}
use Rattle.std.proofs.lemmas.Bool.{ltb-false}
use Rattle.std.proofs.Math.ListN.{length-take}
use Rattle.hc_fields.specs.declared.fields.Field.{Field}
use Rattle.std.specs.Str.{str_eq_ignore_ascii_case}
use Rattle.hc_fields.specs.Lists.{trimmed}
use Rattle.hc_fields.specs.Values.{values_of, has_name}
use Rattle.hc_head.specs.declared.head.RequestHead.{RequestHead}
use Rattle.hc_head.specs.declared.head.ResponseHead.{ResponseHead}
use Rattle.hc_head.specs.declared.head.Target.{Target}
use Rattle.hc_head.specs.declared.head.Version.{Version}
use Rattle.hc_head.specs.declared.head.TheConstants.Room.{RECEIVED, RECORDED}
use Rattle.hc_rules.specs.Passing.{AreKeptLines, IsReceivedRequest}
use Rattle.hc_head.specs.Heads.{BeginsResponseHead, response_field_count}
use Rattle.hc_head.specs.Plain.{is_plain_field}
use Rattle.hc_head.specs.Reading.{IsWholeHead}
use Rattle.hc_head.specs.Writable.{has_framing, longest_body}
use Rattle.hc_rules.proofs.PassingLemmas.{received_request, received_response, received_without_framing, light_request_writable, no_framing_taken, kept_fewer}
use Rattle.hc_framing.specs.declared.fault.FrameFault.{FrameFault}
use Rattle.hc_framing.specs.declared.fault.FrameFault.TheVariants.{BothLengths, BadLength, BadCoding, BodyTooLong}
use Rattle.hc_framing.specs.declared.framing.Framing.{Framing}
use Rattle.hc_framing.specs.declared.framing.Framing.TheVariants.{Nothing, Sized, Chunked, UntilClose}
use Rattle.hc_framing.specs.declared.message.Message.{Message}
use Rattle.hc_framing.specs.Framing.{◌>>=◌, refuse, members_of, first_length, each_writes, common_length, sized_by, sized, coded_by, coded, is_http10, framing_by, response_framing, ends_with_head}
use Rattle.hc_framing.specs.Messages.{BeginsBody, IsWholeBody, response_without_framing, fields_without_framing}
use Rattle.hc_incoming.specs.Requests.{IsRequest}
use Rattle.hc_service.specs.Turns.{IsAnswer}
use Rattle.hc_service.specs.Laws.{IsReceivedAnswer, IsReceivedAsk}

-- ---- the length of a body

-- no length is over the limit
abbrev IsShort : Framing → Type 0
IsShort Nothing = Unit {0}
IsShort (Sized size) = size ≤ longest_body
IsShort Chunked = Unit {0}
IsShort UntilClose = Unit {0}

ok_same : {A : Type 0} (a b : A) (x : Result A FrameFault) → x ≡ Ok a → x ≡ Ok b → a ≡ b
ok_same a b x e f = cc

common_short : (members : List (List ℕ)) (size : ℕ) → common_length members ≡ Ok size → size ≤ longest_body
common_short members size e = by_first (first_length members) e
  where
    by_tests : (n : ℕ) (test over : Bool) → nat_lt longest_body n ≡ over → (refuse test BadLength >>= (λ _. refuse over BodyTooLong >>= (λ _. Ok n))) ≡ Ok size → size ≤ longest_body
    by_tests n true over is e = absurd (cc)
    by_tests n false true is e = absurd (cc)
    by_tests n false false is e =
        let same : n ≡ size = ok_same n size (Ok n) refl e in
        let le : n ≤ longest_body = ltb-false longest_body n is in
        omega arith

    by_first : (first : Option ℕ) → (ok_or first BadLength >>= (λ n. refuse (not (each_writes n members)) BadLength >>= (λ _. refuse (nat_lt longest_body n) BodyTooLong >>= (λ _. Ok n)))) ≡ Ok size
        → size ≤ longest_body
    by_first None e = absurd (cc)
    by_first (Some n) e = by_tests n (not (each_writes n members)) (nat_lt longest_body n) refl e

sized_short : (default : Framing) (values : List (List ℕ)) (frame : Framing) → IsShort default → sized_by default values ≡ Ok frame → IsShort frame
sized_short default [] frame d e = subst IsShort (ok_same default frame (Ok default) refl e) d
sized_short default (value ∷ values) frame d e = by_common (common_length (flat_map members_of (value ∷ values))) refl e
  where
    by_common : (r : Result ℕ FrameFault) → common_length (flat_map members_of (value ∷ values)) ≡ r → (r >>= (λ size. Ok (Sized size))) ≡ Ok frame → IsShort frame
    by_common (Ok size) is e =
        let same : Sized size ≡ frame = ok_same (Sized size) frame (Ok (Sized size)) refl e in subst IsShort same (common_short (flat_map members_of (value ∷ values)) size is)
    by_common (Err fault) is e = absurd (cc)

coded_short : (values : List (List ℕ)) (frame : Framing) → coded_by values ≡ Ok frame → IsShort frame
coded_short [] frame e = absurd (cc)
coded_short (value ∷ []) frame e = by_word (str_eq_ignore_ascii_case (trimmed value) (codes "chunked")) e
  where
    by_word : (b : Bool) → cond b (Ok Chunked) (Err BadCoding) ≡ Ok frame → IsShort frame
    by_word true e = let same : Chunked ≡ frame = ok_same Chunked frame (Ok Chunked) refl e in subst IsShort same tt
    by_word false e = absurd (cc)
coded_short (value ∷ other ∷ values) frame e = absurd (cc)

framing_short : (default : Framing) (version : Version) (fields : List Field) (frame : Framing) → IsShort default → framing_by default version fields ≡ Ok frame → IsShort frame
framing_short default version fields frame d e =
    by_tests (has_name (codes "transfer-encoding") fields && has_name (codes "content-length") fields) (has_name (codes "transfer-encoding") fields && is_http10 version)
    (has_name (codes "transfer-encoding") fields) e
  where
    by_tests : (both old coding : Bool) → (refuse both BothLengths >>= (λ _. refuse old BadLength >>= (λ _. if coding then coded fields else sized default fields))) ≡ Ok frame → IsShort frame
    by_tests true old coding e = absurd (cc)
    by_tests false true coding e = absurd (cc)
    by_tests false false true e = coded_short (values_of (codes "transfer-encoding") fields) frame e
    by_tests false false false e = sized_short default (values_of (codes "content-length") fields) frame d e

body_short : (frame : Framing) (octets body : List ℕ) (len : ℕ) → IsShort frame → BeginsBody frame octets body len → length body ≤ longest_body
body_short Nothing octets body len s b = rw b.0 (omega arith)
body_short (Sized size) octets body len s b = rw b.body_is (omega (arith, length-take size octets))
body_short Chunked octets body len s b = b.short
body_short UntilClose octets body len s b = absurd b

whole_short : (frame : Framing) (octets body : List ℕ) → IsShort frame → IsWholeBody frame octets body → length body ≤ longest_body
whole_short Nothing octets body s b = body_short Nothing octets body (length octets) s b
whole_short (Sized size) octets body s b = body_short (Sized size) octets body (length octets) s b
whole_short Chunked octets body s b = body_short Chunked octets body (length octets) s b
whole_short UntilClose octets body s b = rw b.0 b.1

-- ---- responses

answer_of : (to_head : Bool) (octets : List ℕ) (response : Message ResponseHead) (head : ResponseHead) (len : ℕ) (frame : Framing)
    → IsWholeHead BeginsResponseHead response_field_count octets RECEIVED head len → response.head ≡ response_without_framing head
    → response_framing to_head head.status head.version head.fields ≡ Ok frame → (IsShort frame → length response.body ≤ longest_body) → (frame ≡ Nothing → response.body ≡ [])
    → 200 ≤ response.head.status → IsReceivedAnswer to_head response
answer_of to_head octets response head len frame whole head_is framed short bare final =
    let received = received_response octets head len whole in
    let lines : AreKeptLines (fields_without_framing head.fields) = kept_fewer _ _ (kept_fewer _ head.fields received.1) in
    let same : response.head.fields ≡ fields_without_framing head.fields = ap (λ (h : ResponseHead). h.fields) head_is in
    let status : response.head.status ≡ head.status = ap (λ (h : ResponseHead). h.status) head_is in
    record {
      plain = record {
        least = subst (λ (n : ℕ). 100 ≤ n) (sym status) received.0.least;
        greatest = subst (λ (n : ℕ). n < 1000) (sym status) received.0.greatest;
        fields = subst (λ (fs : List Field). list_all is_plain_field fs ≡ true) (sym same) lines.plain;
      };
      lines = subst AreKeptLines (sym same) lines;
      no_framing = subst (λ (fs : List Field). has_framing fs ≡ false) (sym same) (no_framing_taken head.fields);
      short = short (framed_short to_head head.status head.version head.fields frame framed);
      bare = λ ends. bare (framed_bare to_head head.status head.version head.fields frame (subst (λ (n : ℕ). ends_with_head to_head n ≡ true) status ends) framed);
      is_final = final;
    }
  where
    framed_short : (to_head : Bool) (status : ℕ) (version : Version) (fields : List Field) (frame : Framing) → response_framing to_head status version fields ≡ Ok frame → IsShort frame
    framed_short to_head status version fields frame e = by_end (ends_with_head to_head status) e
      where
        by_end : (b : Bool) → (if b then Ok Nothing else framing_by UntilClose version fields) ≡ Ok frame → IsShort frame
        by_end true e = let same : Nothing ≡ frame = ok_same Nothing frame (Ok Nothing) refl e in subst IsShort same tt
        by_end false e = framing_short UntilClose version fields frame tt e

    framed_bare : (to_head : Bool) (status : ℕ) (version : Version) (fields : List Field) (frame : Framing) → ends_with_head to_head status ≡ true
        → response_framing to_head status version fields ≡ Ok frame → frame ≡ Nothing
    framed_bare to_head status version fields frame ends e =
        ok_same frame Nothing (response_framing to_head status version fields) e (ap (λ (b : Bool). cond b (Ok Nothing) (framing_by UntilClose version fields)) ends)

pub received_answer : (ended to_head : Bool) (octets : List ℕ) (response : Message ResponseHead) → IsAnswer ended to_head octets response → IsReceivedAnswer to_head response
received_answer false to_head octets response a =
    let m = a.begins.begins in
    answer_of to_head a.rest response m.head m.head_len m.frame
    (record { begins = m.begins; octets_fit = a.begins.octets_fit; fields_fit = a.begins.fields_fit }) m.head_is m.framed
    (λ s. body_short m.frame (drop m.head_len a.rest) response.body m.body_len s m.body)
    (λ e. (subst (λ (f : Framing). BeginsBody f (drop m.head_len a.rest) response.body m.body_len) e m.body).0) a.final
received_answer true to_head octets response a =
    let m = a.is_whole.is in
    answer_of to_head a.rest response m.head m.head_len m.frame
    (record { begins = m.begins; octets_fit = a.is_whole.octets_fit; fields_fit = a.is_whole.fields_fit }) m.head_is m.framed
    (λ s. whole_short m.frame (drop m.head_len a.rest) response.body s m.body)
    (λ e. (subst (λ (f : Framing). IsWholeBody f (drop m.head_len a.rest) response.body) e m.body).0) a.final

-- ---- requests

pub received_ask : (octets : List ℕ) (request : Message RequestHead) (target : Target) (size : ℕ) → IsRequest octets request target size → IsReceivedAsk request target
received_ask octets request target size a =
    let m = a.begins.begins in
    let received = received_without_framing m.head (received_request octets m.head m.head_len
    (record { begins = m.begins; octets_fit = a.begins.octets_fit; fields_fit = a.begins.fields_fit })) in
    let is : IsReceivedRequest request.head = subst IsReceivedRequest (sym m.head_is) received in
    let no_framing : has_framing request.head.fields ≡ false = subst (λ (h : RequestHead). has_framing h.fields ≡ false) (sym m.head_is) (no_framing_taken m.head.fields) in
    record {
      forwardable = record { received = is; no_framing = no_framing; has_target = a.served.asks_for };
      readable = record {
        head = light_request_writable request.head RECORDED is.plain no_framing (omega (arith, is.light)) (omega (arith, is.few));
        short = body_short m.frame (drop m.head_len octets) request.body m.body_len (framing_short Nothing m.head.version m.head.fields m.frame tt m.framed) m.body;
      };
    }
