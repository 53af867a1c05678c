-- Heads that are passed on are writable in a transcript.
use Rattle.std.proofs.Common.{◌≡◌, ℕ, ◌+◌, ◌<◌, ◌≤◌, Bool, true, false, cond, not, List, [], ◌∷◌, ◌++◌, length, Some, refl, sym, ◌∙◌, arith, length-append}
use Rattle.std.specs.Prelude.{codes, filter}
use Rattle.std.specs.List.{list_all, list_any}
use Rattle.std.specs.Str.{bytes_eq}
use Rattle.std.proofs.lemmas.Bool.{and_parts, and_from, or_parts, or_from, false≢true}
use Rattle.std.proofs.lemmas.List.Folds.{list_all-append, list_any-append}
use Rattle.httparse.specs.Grammar.{is_token}
use Rattle.hc_fields.specs.declared.fields.Field.{Field}
use Rattle.hc_fields.specs.Values.{has_name, without}
use Rattle.hc_head.specs.declared.head.RequestHead.{RequestHead}
use Rattle.hc_head.specs.declared.head.ResponseHead.{ResponseHead}
use Rattle.hc_head.specs.declared.head.Room.{Room}
use Rattle.hc_head.specs.declared.head.TheConstants.Room.{RECEIVED, RECORDED}
use Rattle.hc_head.specs.declared.head.Version.{Version}
use Rattle.hc_head.specs.Heads.{BeginsRequestHead, request_field_count, BeginsResponseHead, response_field_count}
use Rattle.hc_rules.specs.Passing.{AreKeptLines, AreOwnLines, IsReceivedRequest, most_growth}
use Rattle.hc_head.specs.Plain.{is_plain_field, IsPlainTarget, IsPlainRequest, IsPlainResponse}
use Rattle.hc_head.specs.Reading.{IsWholeHead}
use Rattle.hc_head.specs.Texts.{request_head_text, response_head_text}
use Rattle.hc_head.specs.Weights.{fields_weight}
use Rattle.hc_head.specs.Writable.{has_framing, longest_body, IsWritableRequest, IsWritableResponse}
use Rattle.hc_head.proofs.PlainLemmas.{plain_fewer}
use Rattle.hc_head.proofs.WeightLemmas.{weight_both, weight_fewer, length_fewer, length-request, length-response, weight_longest, request_short, response_short}
use Rattle.hc_head.proofs.WrittenLemmas.{writable_request_from, writable_response_from, begun_request_plain, begun_response_plain}

-- ---- plain heads

pub plain_request_writable : (head : RequestHead) (room : Room) → IsPlainRequest head → has_framing head.fields ≡ false
    → length (request_head_text head (Some longest_body)) ≤ room.octets → length head.fields + 1 ≤ room.fields → IsWritableRequest head room
plain_request_writable head room plain no_framing octets_fit fields_fit =
    writable_request_from head room no_framing plain (omega (arith, fields_fit)) octets_fit

pub plain_response_writable : (head : ResponseHead) (room : Room) → IsPlainResponse head → has_framing head.fields ≡ false
    → length (response_head_text head (Some longest_body)) ≤ room.octets → length head.fields + 1 ≤ room.fields → IsWritableResponse head room
plain_response_writable head room plain no_framing octets_fit fields_fit =
    writable_response_from head room no_framing plain (omega (arith, fields_fit)) octets_fit

pub light_request_writable : (head : RequestHead) (room : Room) → IsPlainRequest head → has_framing head.fields ≡ false
    → length head.method + length head.target + fields_weight head.fields + 40 ≤ room.octets → length head.fields + 1 ≤ room.fields
    → IsWritableRequest head room
light_request_writable head room plain no_framing light fields_fit =
    plain_request_writable head room plain no_framing
    (omega (arith, light, length-request head (Some longest_body), weight_longest head.fields)) fields_fit

pub light_response_writable : (head : ResponseHead) (room : Room) → IsPlainResponse head → has_framing head.fields ≡ false
    → fields_weight head.fields + 43 ≤ room.octets → length head.fields + 1 ≤ room.fields → IsWritableResponse head room
light_response_writable head room plain no_framing light fields_fit =
    plain_response_writable head room plain no_framing
    (omega (arith, light, length-response head (Some longest_body) plain.least plain.greatest, weight_longest head.fields)) fields_fit

-- ---- lines of no such name

none_fewer : {X : Type 0} (p test : X → Bool) (xs : List X) → list_any p xs ≡ false → list_any p (filter test xs) ≡ false
none_fewer p test [] none = refl
none_fewer p test (x ∷ xs) none =
    let parts = or_parts (p x) _ none in
    by_test parts.0 (none_fewer p test xs parts.1) (test x)
  where
    by_test : p x ≡ false → list_any p (filter test xs) ≡ false → (t : Bool) → list_any p (cond t (x ∷ filter test xs) (filter test xs)) ≡ false
    by_test here later true = or_from _ _ here later
    by_test here later false = later

none_both : {X : Type 0} (p : X → Bool) (xs ys : List X) → list_any p xs ≡ false → list_any p ys ≡ false → list_any p (xs ++ ys) ≡ false
none_both p xs ys one other = list_any-append p xs ys ∙ or_from _ _ one other

none_taken : {X : Type 0} (p : X → Bool) (xs : List X) → list_any p (filter (λ x. not (p x)) xs) ≡ false
none_taken p [] = refl
none_taken p (x ∷ xs) = by_test (none_taken p xs) (p x) refl
  where
    by_test : list_any p (filter (λ y. not (p y)) xs) ≡ false → (t : Bool) → p x ≡ t
        → list_any p (cond (not t) (x ∷ filter (λ y. not (p y)) xs) (filter (λ y. not (p y)) xs)) ≡ false
    by_test later true here = later
    by_test later false here = or_from _ _ here later

pub no_name_fewer : (name : List ℕ) (test : Field → Bool) (fields : List Field) → has_name name fields ≡ false → has_name name (filter test fields) ≡ false
no_name_fewer name test fields none = none_fewer (λ f. bytes_eq f.name name) test fields none

pub no_name_both : (name : List ℕ) (front back : List Field) → has_name name front ≡ false → has_name name back ≡ false → has_name name (front ++ back) ≡ false
no_name_both name front back one other = none_both (λ f. bytes_eq f.name name) front back one other

pub no_name_taken : (name : List ℕ) (fields : List Field) → has_name name (without name fields) ≡ false
no_name_taken name fields = none_taken (λ f. bytes_eq f.name name) fields

none_refused : {X : Type 0} (p test : X → Bool) (xs : List X) → ((x : X) → p x ≡ true → test x ≡ false) → list_any p (filter test xs) ≡ false
none_refused p test [] refuses = refl
none_refused p test (x ∷ xs) refuses = by_tests (none_refused p test xs refuses) (test x) (p x) refl refl
  where
    by_tests : list_any p (filter test xs) ≡ false → (t s : Bool) → test x ≡ t → p x ≡ s → list_any p (cond t (x ∷ filter test xs) (filter test xs)) ≡ false
    by_tests later false s passes is = later
    by_tests later true false passes is = or_from _ _ is later
    by_tests later true true passes is = absurd (false≢true (sym (refuses x is) ∙ passes))

pub no_name_refused : (name : List ℕ) (test : Field → Bool) (fields : List Field) → ((f : Field) → bytes_eq f.name name ≡ true → test f ≡ false)
    → has_name name (filter test fields) ≡ false
no_name_refused name test fields refuses = none_refused (λ f. bytes_eq f.name name) test fields refuses

pub no_framing_fewer : (test : Field → Bool) (fields : List Field) → has_framing fields ≡ false → has_framing (filter test fields) ≡ false
no_framing_fewer test fields none =
    let parts = or_parts (has_name (codes "content-length") fields) _ none in
    or_from _ _ (no_name_fewer (codes "content-length") test fields parts.0) (no_name_fewer (codes "transfer-encoding") test fields parts.1)

pub no_framing_both : (front back : List Field) → has_framing front ≡ false → has_framing back ≡ false → has_framing (front ++ back) ≡ false
no_framing_both front back one other =
    let f = or_parts (has_name (codes "content-length") front) _ one in
    let b = or_parts (has_name (codes "content-length") back) _ other in
    or_from _ _ (no_name_both (codes "content-length") front back f.0 b.0) (no_name_both (codes "transfer-encoding") front back f.1 b.1)

pub no_framing_taken : (fields : List Field) → has_framing (without (codes "transfer-encoding") (without (codes "content-length") fields)) ≡ false
no_framing_taken fields =
    let lengths = without (codes "content-length") fields in
    or_from _ _
    (no_name_fewer (codes "content-length") (λ f. not (bytes_eq f.name (codes "transfer-encoding"))) lengths (no_name_taken (codes "content-length") fields))
    (no_name_taken (codes "transfer-encoding") lengths)

-- ---- what was received

pub received_request : (octets : List ℕ) (head : RequestHead) (len : ℕ) → IsWholeHead BeginsRequestHead request_field_count octets RECEIVED head len
    → IsReceivedRequest head
received_request octets head len whole = record {
  plain = begun_request_plain octets head len whole.begins;
  few = whole.fields_fit;
  light = omega (arith, request_short octets head len whole.begins, whole.octets_fit, whole.fields_fit);
}

pub received_response : (octets : List ℕ) (head : ResponseHead) (len : ℕ) → IsWholeHead BeginsResponseHead response_field_count octets RECEIVED head len
    → IsPlainResponse head × AreKeptLines head.fields
received_response octets head len whole =
    let plain = begun_response_plain octets head len whole.begins in (
      plain,
      record {
        plain = plain.fields;
        few = whole.fields_fit;
        light = omega (arith, response_short octets head len whole.begins, whole.octets_fit, whole.fields_fit);
      },
    )

pub received_fewer : (test : Field → Bool) (head : RequestHead) → IsReceivedRequest head
    → IsReceivedRequest (record { method = head.method; target = head.target; version = head.version; fields = filter test head.fields })
received_fewer test head received = record {
  plain = record { method = received.plain.method; target = received.plain.target; fields = plain_fewer test head.fields received.plain.fields };
  few = omega (arith, received.few, length_fewer test head.fields);
  light = omega (arith, received.light, weight_fewer test head.fields);
}

pub received_without_framing : (head : RequestHead) → IsReceivedRequest head
    → IsReceivedRequest (record head { fields = without (codes "transfer-encoding") (without (codes "content-length") head.fields) })
received_without_framing head received =
    let lengths : Field → Bool = λ f. not (bytes_eq f.name (codes "content-length")) in
    let codings : Field → Bool = λ f. not (bytes_eq f.name (codes "transfer-encoding")) in
    received_fewer codings (record head { fields = filter lengths head.fields }) (received_fewer lengths head received)

pub received_lines : (head : RequestHead) → IsReceivedRequest head → AreKeptLines head.fields
received_lines head received = record { plain = received.plain.fields; few = received.few; light = omega (arith, received.light) }

pub kept_fewer : (test : Field → Bool) (fields : List Field) → AreKeptLines fields → AreKeptLines (filter test fields)
kept_fewer test fields kept = record {
  plain = plain_fewer test fields kept.plain;
  few = omega (arith, kept.few, length_fewer test fields);
  light = omega (arith, kept.light, weight_fewer test fields);
}

pub kept_from_stored : (fields : List Field) → list_all is_plain_field fields ≡ true → length fields ≤ 100 → fields_weight fields ≤ 65536 → AreKeptLines fields
kept_from_stored fields plain few light = record { plain = plain; few = few; light = omega (arith, light) }

-- ---- what is passed on: lines between own lines

plain_between : (p : Field → Bool) (before kept behind : List Field) → list_all p (before ++ behind) ≡ true → list_all p kept ≡ true
    → list_all p (before ++ kept ++ behind) ≡ true
plain_between p before kept behind own all =
    let parts = and_parts (list_all p before) _ (sym (list_all-append p before behind) ∙ own) in
    list_all-append p (before ++ kept) behind ∙ and_from _ _ (list_all-append p before kept ∙ and_from _ _ parts.0 all) parts.1

none_between : (p : Field → Bool) (before kept behind : List Field) → list_any p (before ++ behind) ≡ false → list_any p kept ≡ false
    → list_any p (before ++ kept ++ behind) ≡ false
none_between p before kept behind own none =
    let parts = or_parts (list_any p before) _ (sym (list_any-append p before behind) ∙ own) in
    none_both p (before ++ kept) behind (none_both p before kept parts.0 none) parts.1

no_framing_between : (before kept behind : List Field) → has_framing (before ++ behind) ≡ false → has_framing kept ≡ false
    → has_framing (before ++ kept ++ behind) ≡ false
no_framing_between before kept behind own none =
    let o = or_parts (has_name (codes "content-length") (before ++ behind)) _ own in
    let k = or_parts (has_name (codes "content-length") kept) _ none in
    or_from _ _ (none_between (λ f. bytes_eq f.name (codes "content-length")) before kept behind o.0 k.0)
    (none_between (λ f. bytes_eq f.name (codes "transfer-encoding")) before kept behind o.1 k.1)

weight_between : (before kept behind : List Field) → fields_weight (before ++ kept ++ behind) ≡ fields_weight (before ++ behind) + fields_weight kept
weight_between before kept behind =
    omega (arith, weight_both (before ++ kept) behind, weight_both before kept, weight_both before behind)

length_between : (before kept behind : List Field) → length (before ++ kept ++ behind) ≡ length (before ++ behind) + length kept
length_between before kept behind =
    omega (arith, length-append (before ++ kept) behind, length-append before kept, length-append before behind)

pub passed_request : (received : RequestHead) (method target : List ℕ) (version : Version) (test : Field → Bool) (before behind : List Field)
    → IsReceivedRequest received → is_token method ≡ true → IsPlainTarget target
    → length method + length target ≤ length received.method + length received.target + most_growth
    → has_framing (filter test received.fields) ≡ false → AreOwnLines (before ++ behind)
    → IsWritableRequest (record { method = method; target = target; version = version; fields = before ++ filter test received.fields ++ behind }) RECORDED
passed_request received method target version test before behind is token plain growth no_framing own =
    let kept = filter test received.fields in
    let fields = before ++ kept ++ behind in
    let left = received_fewer test received is in
    light_request_writable (record { method = method; target = target; version = version; fields = fields }) RECORDED
    (record { method = token; target = plain; fields = plain_between is_plain_field before kept behind own.plain left.plain.fields })
    (no_framing_between before kept behind own.no_framing no_framing)
    (omega (arith, weight_between before kept behind, own.light, left.light, growth))
    (omega (arith, length_between before kept behind, own.few, left.few))

pub passed_response : (status : ℕ) (version : Version) (kept before behind : List Field) → 100 ≤ status → status < 1000 → AreKeptLines kept
    → has_framing kept ≡ false → AreOwnLines (before ++ behind)
    → IsWritableResponse (record { status = status; version = version; fields = before ++ kept ++ behind }) RECORDED
passed_response status version kept before behind least greatest are no_framing own =
    let fields = before ++ kept ++ behind in
    light_response_writable (record { status = status; version = version; fields = fields }) RECORDED
    (record { least = least; greatest = greatest; fields = plain_between is_plain_field before kept behind own.plain are.plain })
    (no_framing_between before kept behind own.no_framing no_framing)
    (omega (arith, weight_between before kept behind, own.light, are.light))
    (omega (arith, length_between before kept behind, own.few, are.few))
