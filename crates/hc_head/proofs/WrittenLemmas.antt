-- A head of plain parts is read as it is written, and only such a head is.
use Rattle.std.proofs.Common.{◌≡◌, ℕ, ◌+◌, ◌/◌, ◌%◌, ◌<◌, ◌≤◌, ◌^◌, Bool, true, false, cond, ◌&&◌, ◌||◌, List, [], ◌∷◌, ◌++◌, length, map, reverse, flat_map, Option, Some, None, refl, sym, ap, subst, ◌∙◌, arith, rules, append_assoc, length-append}
use Rattle.std.specs.Prelude.{codes, decimal, All, IfSome}
use Rattle.std.specs.List.{list_all, list_any}
use Rattle.std.specs.Fmt.{digits}
use Rattle.std.specs.Char.{is_ascii_digit, is_ascii_uppercase, to_ascii_lowercase}
use Rattle.std.specs.Str.Parse.{digits_value}
use Rattle.std.proofs.lemmas.Str.Parse.{IsNumeralModel, numerals_by_value}
use Rattle.std.specs.Str.{str_to_ascii_lowercase}
use Rattle.std.proofs.lemmas.List.Concat.{flat_map-append}
use Rattle.std.proofs.lemmas.List.{reverse-append, reverse-reverse, append-nil, length-map, length_push}
use Rattle.std.proofs.lemmas.List.Folds.{list_all-append}
use Rattle.std.proofs.lemmas.List.Sums.{AllPass-from_list_all, list_all-from_AllPass}
use Rattle.std.proofs.lemmas.List.Elements.{All-nil, All-cons, All-head, All-tail, All-weaker}
use Rattle.std.proofs.lemmas.Bool.{and_parts, and_from, not-true, not_from_false, or_parts, ltb-true, lt-ltb}
use Rattle.std.proofs.lemmas.Bool.Decides.{nat_tests}
use Rattle.std.proofs.lemmas.Fmt.{decimal_digit, decimal_step, length-decimal-le, digits_decimal, digits_value-decimal}
use Rattle.httparse.specs.Grammar.{is_token, is_token_byte, is_ows, is_uri_byte, is_value_byte, AllPass, IsToken, crlf, Field as Line, print_field, IsField, skip_ows, trim_ows, print_section, print_version, RequestHead as RequestSyntax, print_request, IsRequestHead, ResponseHead as ResponseSyntax, print_response, IsResponseHead, status_code}
use Rattle.httparse.proofs.TrimLemmas.{trim_ows_space, AllPass-trim_ows, AllPass-reverse}
use Rattle.httparse.proofs.GrammarLemmas.{cons-append}
use Rattle.hc_head.proofs.DigitLemmas.{status_small}
use Rattle.hc_fields.specs.declared.fields.Field.{Field}
use Rattle.hc_head.specs.declared.head.RequestHead.{RequestHead}
use Rattle.hc_head.specs.declared.head.ResponseHead.{ResponseHead}
use Rattle.hc_head.specs.declared.head.Version.{Version}
use Rattle.hc_head.specs.declared.head.Version.TheVariants.{Http10, Http11}
use Rattle.hc_head.specs.Heads.{field_of, version_of, request_head_of, BeginsRequestHead, BeginsResponseHead}
use Rattle.hc_head.specs.Texts.{version_text, request_line, status_line, field_line, section_text, length_field, with_length, request_with_length, response_with_length, request_head_text, response_head_text}
use Rattle.hc_head.specs.declared.head.Room.{Room}
use Rattle.hc_head.specs.Writable.{has_framing, longest_body, BeginsWrittenRequest, IsWritableRequest, BeginsWrittenResponse, IsWritableResponse}
use Rattle.hc_head.specs.Plain.{is_plain_name, starts_visible, is_plain_value, is_plain_field, IsPlainRequest, IsPlainResponse}

-- ---- tests and facts

pub IsToken_from_test : (s : List ℕ) → is_token s ≡ true → IsToken s
IsToken_from_test s token =
    let parts = and_parts _ (list_all is_token_byte s) token in
    (ltb-true _ _ parts.0, AllPass-from_list_all is_token_byte s parts.1)

pub test_from_IsToken : (s : List ℕ) → IsToken s → is_token s ≡ true
test_from_IsToken s token = and_from _ _ (lt-ltb _ _ token.0) (list_all-from_AllPass is_token_byte s token.1)

-- ---- names in lower case

lower_same : (b : ℕ) → is_ascii_uppercase b ≡ false → to_ascii_lowercase b ≡ b
lower_same b other = grind (arith, nat_tests)

lower_no_capital : (b : ℕ) → is_ascii_uppercase (to_ascii_lowercase b) ≡ false
lower_no_capital b = grind (arith, nat_tests)

pub lower_name : (name : List ℕ) → list_any is_ascii_uppercase name ≡ false → str_to_ascii_lowercase name ≡ name
lower_name [] none = refl
lower_name (b ∷ name) none =
    let parts = or_parts (is_ascii_uppercase b) _ none in
    let first = lower_same b parts.0 in
    let later = lower_name name parts.1 in
    λ i. first i ∷ later i

pub no_capital : (name : List ℕ) → list_any is_ascii_uppercase (str_to_ascii_lowercase name) ≡ false
no_capital [] = refl
no_capital (b ∷ name) = let first = lower_no_capital b in let later = no_capital name in λ i. first i || later i

token_lower : (b : ℕ) → is_token_byte b ≡ true → is_token_byte (to_ascii_lowercase b) ≡ true
unfolding is_token_byte
token_lower b token = grind (arith, nat_tests)

-- ---- values without white space at the ends

skip_ows_visible : (s : List ℕ) → starts_visible s ≡ true → skip_ows s ≡ s
skip_ows_visible [] visible = refl
skip_ows_visible (b ∷ bs) visible = ap (λ t. cond t (skip_ows bs) (b ∷ bs)) (not-true _ visible)

starts_visible_skip : (s : List ℕ) → starts_visible (skip_ows s) ≡ true
starts_visible_skip [] = refl
starts_visible_skip (b ∷ bs) = by_test (starts_visible_skip bs) (is_ows b) refl
  where
    by_test : starts_visible (skip_ows bs) ≡ true → (t : Bool) → is_ows b ≡ t → starts_visible (skip_ows (b ∷ bs)) ≡ true
    by_test later true blank = rw blank later
    by_test later false other = rw other (not_from_false _ other)

trim_ows_plain : (v : List ℕ) → is_plain_value v ≡ true → trim_ows (32 ∷ v) ≡ v
trim_ows_plain v plain =
    let front = and_parts (starts_visible v) _ plain in
    let back = and_parts (starts_visible (reverse v)) _ front.1 in
    trim_ows_space v (skip_ows_visible v front.0) (skip_ows_visible (reverse v) back.0)

-- ---- the longest length

pub longest_digits : decimal 16777216 ≡ codes "16777216"
unfolding digits
longest_digits = refl

pub length-version_text : (v : Version) → length (version_text v) ≡ 8
length-version_text Http10 = refl
length-version_text Http11 = refl

-- the text of a section with one more field
section-push : (fields : List Field) (f : Field) → section_text (fields ++ f ∷ []) ≡ flat_map field_line fields ++ (field_line f ++ codes "\r\n")
section-push fields f = simp (flat_map-append, append-nil, append_assoc)

pub length-field_line : (f : Field) → length (field_line f) ≡ length f.name + length f.value + 4
length-field_line f = omega (arith, length-append {A = ℕ})

length-section : (fields : List Field) (n k : ℕ) → length (decimal n) ≡ k
    → length (section_text (with_length fields (Some n))) ≡ length (flat_map field_line fields) + 20 + k
length-section fields n k digits-are =
    let line = length-field_line (length_field n) in
    omega (arith, ap length (section-push fields (length_field n)), length-append (flat_map field_line fields) (field_line (length_field n) ++ codes "\r\n"), length-append (field_line (length_field n)) (codes "\r\n"), line, digits-are)

pub length-request_text : (head : RequestHead)
    → length (request_head_text head (Some 16777216)) ≡ length head.method + length head.target + 40 + length (flat_map field_line head.fields)
length-request_text head =
    let section = length-section head.fields 16777216 8 (ap length longest_digits) in
    omega (arith, length-append (request_line head) (section_text (with_length head.fields (Some 16777216))), section, length-append {A = ℕ}, length-version_text head.version)

-- ---- the three digits of a status

own : IsNumeralModel (λ ds. list_all is_ascii_digit ds ≡ true) (digits_value 10)
own = numerals_by_value _ (search rules)

pub status_digits : (s : ℕ) → 100 ≤ s → s < 1000 → decimal s ≡ (48 + s / 10 / 10) ∷ (48 + s / 10 % 10) ∷ (48 + s % 10) ∷ []
status_digits s low high =
    let front = decimal_digit (s / 10 / 10) (omega arith) in
    let middle = decimal_step (s / 10) (omega arith) (omega arith) in
    let whole = decimal_step s (omega arith) (omega arith) in
    rw (whole, middle, front) refl

pub digit_passes : (n : ℕ) → n < 10 → is_ascii_digit (48 + n) ≡ true
digit_passes n small = grind (arith, nat_tests)

status_passes : (s : ℕ) → 100 ≤ s → s < 1000 → list_all is_ascii_digit (decimal s) ≡ true
status_passes s low high =
    let first = digit_passes (s / 10 / 10) (omega arith) in
    let second = digit_passes (s / 10 % 10) (omega arith) in
    let third = digit_passes (s % 10) (omega arith) in
    ap (list_all is_ascii_digit) (status_digits s low high) ∙ (λ i. first i && (second i && (third i && true)))

pub length-response_text : (head : ResponseHead) → 100 ≤ head.status → head.status < 1000
    → length (response_head_text head (Some 16777216)) ≡ 43 + length (flat_map field_line head.fields)
length-response_text head low high =
    let section = length-section head.fields 16777216 8 (ap length longest_digits) in
    let status : length (decimal head.status) ≡ 3 = ap length (status_digits head.status low high) in
    omega (arith, length-append (status_line head) (section_text (with_length head.fields (Some 16777216))), section, status, length-append {A = ℕ}, length-version_text head.version)

-- ---- the trees that are written

abbrev line_of : Field → Line
line_of f = record { name = f.name; raw = 32 ∷ f.value; end = crlf }

abbrev minor_of : Version → ℕ
minor_of Http10 = 0
minor_of Http11 = 1

abbrev request_tree : RequestHead → RequestSyntax
request_tree head = record {
  blank = [];
  method = head.method;
  target = head.target;
  minor = minor_of head.version;
  line_end = crlf;
  fields = map line_of head.fields;
  last = crlf;
}

abbrev response_tree : ResponseHead → ResponseSyntax
response_tree head = record {
  blank = [];
  minor = minor_of head.version;
  digits = decimal head.status;
  reason = Some [];
  line_end = crlf;
  fields = map line_of head.fields;
  last = crlf;
}

version_written : (v : Version) → print_version (minor_of v) ≡ version_text v
version_written Http10 = refl
version_written Http11 = refl

version_back : (v : Version) → version_of (minor_of v) ≡ v
version_back Http10 = refl
version_back Http11 = refl

minor_small : (v : Version) → minor_of v ≤ 1
minor_small Http10 = omega arith
minor_small Http11 = omega arith

line_written : (f : Field) → print_field (line_of f) ≡ field_line f
line_written f = simp (append_assoc, cons-append)

lines_written : (fs : List Field) → flat_map print_field (map line_of fs) ≡ flat_map field_line fs
lines_written [] = refl
lines_written (f ∷ fs) = let first = line_written f in let later = lines_written fs in λ i. first i ++ later i

section_written : (fs : List Field) → print_section (map line_of fs) crlf ≡ section_text fs
section_written fs = ap (λ (l : List ℕ). l ++ codes "\r\n") (lines_written fs)

request_written : (head : RequestHead) → print_request (request_tree head) ≡ request_line head ++ section_text head.fields
unfolding print_request
request_written head = rw (section_written head.fields, version_written head.version) (simp (append_assoc, cons-append))

status_line_written : (v : Version) (ds section : List ℕ)
    → print_version (minor_of v) ++ 32 ∷ ds ++ (32 ∷ []) ++ codes "\r\n" ++ section ≡ (version_text v ++ codes " " ++ ds ++ codes " \r\n") ++ section
status_line_written Http10 ds section = ap (λ (l : List ℕ). codes "HTTP/1.0 " ++ (l ++ section)) (append_assoc ds (32 ∷ []) (codes "\r\n"))
status_line_written Http11 ds section = ap (λ (l : List ℕ). codes "HTTP/1.1 " ++ (l ++ section)) (append_assoc ds (32 ∷ []) (codes "\r\n"))

response_written : (head : ResponseHead) → print_response (response_tree head) ≡ status_line head ++ section_text head.fields
unfolding print_response
response_written head = rw (section_written head.fields) (status_line_written head.version (decimal head.status) (section_text head.fields))

-- ---- plain fields are read back

plain_line : (f : Field) → is_plain_field f ≡ true → IsField (line_of f) × (field_of (line_of f) ≡ f)
plain_line f plain =
    let parts = and_parts (is_plain_name f.name) _ plain in
    let name = and_parts (is_token f.name) _ parts.0 in
    let front = and_parts (starts_visible f.value) _ parts.1 in
    let back = and_parts (starts_visible (reverse f.value)) _ front.1 in
    let lower = lower_name f.name (not-true _ name.1) in
    let trimmed = trim_ows_plain f.value parts.1 in (
      record { name = IsToken_from_test f.name name.0; raw = AllPass-from_list_all is_value_byte (32 ∷ f.value) back.1 },
      λ i. record { name = lower i; value = trimmed i },
    )

plain_lines : (fs : List Field) → list_all is_plain_field fs ≡ true → All IsField (map line_of fs) × (map field_of (map line_of fs) ≡ fs)
plain_lines [] plain = (All-nil IsField, refl)
plain_lines (f ∷ fs) plain =
    let parts = and_parts (is_plain_field f) _ plain in
    let first = plain_line f parts.0 in
    let later = plain_lines fs parts.1 in
    (All-cons IsField (line_of f) (map line_of fs) first.0 later.0, λ i. first.1 i ∷ later.1 i)

pub plain_request_begins : (head : RequestHead) (more : List ℕ) → IsPlainRequest head
    → BeginsRequestHead ((request_line head ++ section_text head.fields) ++ more) head (length (request_line head ++ section_text head.fields))
plain_request_begins head more plain =
    let lines = plain_lines head.fields plain.fields in
    let version = version_back head.version in
    let written = request_written head in
    let whole : IsRequestHead (request_tree head) = record {
      method = IsToken_from_test head.method plain.method;
      target = (plain.target.some, AllPass-from_list_all is_uri_byte head.target plain.target.visible);
      target_text = plain.target.text;
      minor = minor_small head.version;
      fields = lines.0;
    } in
    record {
      syntax = request_tree head;
      rest = more;
      reads = (whole, ap (λ (l : List ℕ). l ++ more) (sym written));
      len_is = ap length (sym written);
      head_is = λ i. record { method = head.method; target = head.target; version = sym version i; fields = sym lines.1 i };
    }

pub plain_response_begins : (head : ResponseHead) (more : List ℕ) → IsPlainResponse head
    → BeginsResponseHead ((status_line head ++ section_text head.fields) ++ more) head (length (status_line head ++ section_text head.fields))
plain_response_begins head more plain =
    let lines = plain_lines head.fields plain.fields in
    let version = version_back head.version in
    let written = response_written head in
    let digits = status_digits head.status plain.least plain.greatest in
    let value : head.status ≡ status_code (response_tree head) = sym (digits_value-decimal own head.status (omega (arith, plain.greatest))) in
    let whole : IsResponseHead (response_tree head) = record {
      minor = minor_small head.version;
      digits = (ap length digits, AllPass-from_list_all is_ascii_digit (decimal head.status) (status_passes head.status plain.least plain.greatest));
      reason = All-nil (λ b. is_value_byte b ≡ true);
      fields = lines.0;
    } in
    record {
      syntax = response_tree head;
      rest = more;
      reads = (whole, ap (λ (l : List ℕ). l ++ more) (sym written));
      len_is = ap length (sym written);
      head_is = λ i. record { status = value i; version = sym version i; fields = sym lines.1 i };
      has_status = plain.least;
    }

-- ---- what is read has plain parts

starts_visible_front : (xs : List ℕ) (b : ℕ) → starts_visible (xs ++ b ∷ []) ≡ true → starts_visible xs ≡ true
starts_visible_front [] b visible = refl
starts_visible_front (x ∷ xs) b visible = visible

starts_visible_cut : (t : List ℕ) → starts_visible (reverse t) ≡ true → starts_visible (reverse (skip_ows t)) ≡ true
starts_visible_cut [] visible = visible
starts_visible_cut (b ∷ t) visible = by_test (starts_visible_cut t (starts_visible_front (reverse t) b (subst (λ (l : List ℕ). starts_visible l ≡ true) (reverse-append (b ∷ []) t) visible))) (is_ows b) refl
  where
    by_test : starts_visible (reverse (skip_ows t)) ≡ true → (test : Bool) → is_ows b ≡ test → starts_visible (reverse (skip_ows (b ∷ t))) ≡ true
    by_test later true blank = rw blank later
    by_test later false other = rw other visible

trimmed_plain : (raw : List ℕ) → AllPass is_value_byte raw → is_plain_value (trim_ows raw) ≡ true
unfolding trim_ows
trimmed_plain raw text =
    let cut = skip_ows raw in
    let front : starts_visible (reverse (skip_ows (reverse cut))) ≡ true =
    starts_visible_cut (reverse cut) (rw reverse-reverse (starts_visible_skip raw)) in
    let back : starts_visible (reverse (reverse (skip_ows (reverse cut)))) ≡ true = rw reverse-reverse (starts_visible_skip (reverse cut)) in
    and_from _ _ front (and_from _ _ back (list_all-from_AllPass is_value_byte _ (AllPass-trim_ows is_value_byte raw text)))

token_name_lower : (name : List ℕ) → list_all is_token_byte name ≡ true → list_all is_token_byte (str_to_ascii_lowercase name) ≡ true
token_name_lower [] token = refl
token_name_lower (b ∷ name) token =
    let parts = and_parts (is_token_byte b) _ token in
    and_from _ _ (token_lower b parts.0) (token_name_lower name parts.1)

plain_name_of : (name : List ℕ) → IsToken name → is_plain_name (str_to_ascii_lowercase name) ≡ true
plain_name_of name token =
    let lower = str_to_ascii_lowercase name in
    let some : 0 < length lower = omega (arith, token.0, length-map name to_ascii_lowercase) in
    and_from (is_token lower) _
    (and_from _ _ (lt-ltb _ _ some) (token_name_lower name (list_all-from_AllPass is_token_byte name token.1)))
    (not_from_false _ (no_capital name))

plain_fields_of : (lines : List Line) → All IsField lines → list_all is_plain_field (map field_of lines) ≡ true
plain_fields_of [] all = refl
plain_fields_of (l ∷ lines) all =
    let line = All-head IsField l lines all in
    and_from (is_plain_field (field_of l)) _
    (and_from (is_plain_name (field_of l).name) _ (plain_name_of l.name line.name) (trimmed_plain l.raw line.raw))
    (plain_fields_of lines (All-tail IsField l lines all))

pub begun_request_plain : (octets : List ℕ) (head : RequestHead) (len : ℕ) → BeginsRequestHead octets head len → IsPlainRequest head
begun_request_plain octets head len begins =
    let is = begins.reads.0 in
    let plain : IsPlainRequest (request_head_of begins.syntax) = record {
      method = test_from_IsToken begins.syntax.method is.method;
      target = record { some = is.target.0; visible = list_all-from_AllPass is_uri_byte begins.syntax.target is.target.1; text = is.target_text };
      fields = plain_fields_of begins.syntax.fields is.fields;
    } in
    subst IsPlainRequest (sym begins.head_is) plain

pub begun_response_plain : (octets : List ℕ) (head : ResponseHead) (len : ℕ) → BeginsResponseHead octets head len → IsPlainResponse head
begun_response_plain octets head len begins =
    let is = begins.reads.0 in
    let small = status_small begins.syntax is in
    record {
      least = begins.has_status;
      greatest = omega (arith, small, ap (λ (h : ResponseHead). h.status) begins.head_is);
      fields = rw (ap (λ (h : ResponseHead). h.fields) begins.head_is) (plain_fields_of begins.syntax.fields is.fields);
    }

-- ---- the field of a length

visible_digit : (b : ℕ) → is_ascii_digit b ≡ true → is_ows b ≡ false
visible_digit b digit = grind (arith, nat_tests)

text_digit : (b : ℕ) → is_ascii_digit b ≡ true → is_value_byte b ≡ true
text_digit b digit = grind (arith, nat_tests)

pub starts_with_digit : (ds : List ℕ) → AllPass is_ascii_digit ds → starts_visible ds ≡ true
starts_with_digit [] all = refl
starts_with_digit (d ∷ ds) all = not_from_false _ (visible_digit d (All-head (λ b. is_ascii_digit b ≡ true) d ds all))

pub digits_plain : (ds : List ℕ) → AllPass is_ascii_digit ds → is_plain_value ds ≡ true
digits_plain ds all =
    let text = All-weaker (λ b. is_ascii_digit b ≡ true) (λ b. is_value_byte b ≡ true) text_digit ds all in
    and_from _ _ (starts_with_digit ds all)
    (and_from _ _ (starts_with_digit (reverse ds) (AllPass-reverse is_ascii_digit ds all)) (list_all-from_AllPass is_value_byte ds text))

length_name_plain : is_plain_name (codes "content-length") ≡ true
unfolding is_token_byte
length_name_plain = refl

length_field_plain : (n : ℕ) → n < 2 ^ 64 → is_plain_field (length_field n) ≡ true
length_field_plain n small =
    and_from _ _ length_name_plain (digits_plain (decimal n) (AllPass-from_list_all is_ascii_digit (decimal n) (digits_decimal own n small)))

with_length_plain : (fields : List Field) (n : ℕ) → n < 2 ^ 64 → list_all is_plain_field fields ≡ true
    → list_all is_plain_field (with_length fields (Some n)) ≡ true
with_length_plain fields n small plain =
    list_all-append is_plain_field fields (length_field n ∷ []) ∙ and_from _ _ plain (and_from _ _ (length_field_plain n small) refl)

without_length_plain : (fields : List Field) (f : Field) → list_all is_plain_field (fields ++ f ∷ []) ≡ true → list_all is_plain_field fields ≡ true
without_length_plain fields f plain =
    (and_parts _ _ (sym (list_all-append is_plain_field fields (f ∷ [])) ∙ plain)).0

-- ---- heads that are writable, requests

-- what the code tests
pub record RequestParts (head : RequestHead) (room : Room) : Type 0 where
  pub no_framing : has_framing head.fields ≡ false
  pub plain : IsPlainRequest head
  pub fields_fit : length head.fields < room.fields
  pub octets_fit : length (request_head_text head (Some longest_body)) ≤ room.octets

request_with_plain : (head : RequestHead) (n : ℕ) → n < 2 ^ 64 → IsPlainRequest head → IsPlainRequest (request_with_length head (Some n))
request_with_plain head n small plain =
    record { method = plain.method; target = plain.target; fields = with_length_plain head.fields n small plain.fields }

written_request : (head : RequestHead) (room : Room) (n : ℕ) (more : List ℕ) → n < 2 ^ 64 → IsPlainRequest head → length head.fields < room.fields
    → length (request_head_text head (Some n)) ≤ room.octets
    → BeginsWrittenRequest (request_head_text head (Some n) ++ more) room head (Some n)
written_request head room n more small plain fields-fit octets-fit = record {
  begins = plain_request_begins (request_with_length head (Some n)) more (request_with_plain head n small plain);
  octets_fit = octets-fit;
  fields_fit = omega (arith, length_push head.fields (length_field n), fields-fit);
}

pub writable_request_from : (head : RequestHead) (room : Room) → has_framing head.fields ≡ false → IsPlainRequest head → length head.fields < room.fields
    → length (request_head_text head (Some longest_body)) ≤ room.octets → IsWritableRequest head room
writable_request_from head room no_framing plain fields_fit octets_fit =
    let text = request_head_text head (Some longest_body) in
    let back = written_request head room longest_body [] (omega arith) plain fields_fit octets_fit in
    record {
      no_framing = no_framing;
      read_back = subst (λ (o : List ℕ). BeginsWrittenRequest o room head (Some longest_body)) (append-nil text) back;
    }

pub writable_request_parts : (head : RequestHead) (room : Room) → IsWritableRequest head room → RequestParts head room
writable_request_parts head room writable =
    let whole = begun_request_plain _ _ _ writable.read_back.begins in
    record {
      no_framing = writable.no_framing;
      plain = record { method = whole.method; target = whole.target; fields = without_length_plain head.fields (length_field longest_body) whole.fields };
      fields_fit = omega (arith, writable.read_back.fields_fit, length_push head.fields (length_field longest_body));
      octets_fit = writable.read_back.octets_fit;
    }

length-request_by : (head : RequestHead) (n : ℕ)
    → length (request_head_text head (Some n)) ≡ length (request_head_text head None) + 18 + length (decimal n)
length-request_by head n =
    omega (arith, length-append (request_line head) (section_text (with_length head.fields (Some n))), length-append (request_line head) (section_text head.fields), length-section head.fields n (length (decimal n)) refl, length-append (flat_map field_line head.fields) (codes "\r\n"))

-- a writable head, written with any length of a body or none, is read as it was written, whatever follows
pub request_read_back : (head : RequestHead) (room : Room) → IsWritableRequest head room → (size : Option ℕ) → IfSome size (λ n. n ≤ longest_body) → (more : List ℕ)
    → BeginsWrittenRequest (request_head_text head size ++ more) room head size
request_read_back head room writable None short more =
    let parts = writable_request_parts head room writable in
    record {
      begins = plain_request_begins head more parts.plain;
      octets_fit = omega (arith, parts.octets_fit, length-request_by head longest_body);
      fields_fit = omega (arith, parts.fields_fit);
    }
request_read_back head room writable (Some n) short more =
    let parts = writable_request_parts head room writable in
    let digits = length-decimal-le 8 n (omega arith) (omega (arith, short)) (omega (arith, short)) in
    written_request head room n more (omega (arith, short)) parts.plain parts.fields_fit
    (omega (arith, parts.octets_fit, length-request_by head longest_body, length-request_by head n, digits, ap length longest_digits))

-- ---- heads that are writable, responses

-- what the code tests
pub record ResponseParts (head : ResponseHead) (room : Room) : Type 0 where
  pub no_framing : has_framing head.fields ≡ false
  pub plain : IsPlainResponse head
  pub fields_fit : length head.fields < room.fields
  pub octets_fit : length (response_head_text head (Some longest_body)) ≤ room.octets

response_with_plain : (head : ResponseHead) (n : ℕ) → n < 2 ^ 64 → IsPlainResponse head → IsPlainResponse (response_with_length head (Some n))
response_with_plain head n small plain =
    record { least = plain.least; greatest = plain.greatest; fields = with_length_plain head.fields n small plain.fields }

written_response : (head : ResponseHead) (room : Room) (n : ℕ) (more : List ℕ) → n < 2 ^ 64 → IsPlainResponse head → length head.fields < room.fields
    → length (response_head_text head (Some n)) ≤ room.octets
    → BeginsWrittenResponse (response_head_text head (Some n) ++ more) room head (Some n)
written_response head room n more small plain fields-fit octets-fit = record {
  begins = plain_response_begins (response_with_length head (Some n)) more (response_with_plain head n small plain);
  octets_fit = octets-fit;
  fields_fit = omega (arith, length_push head.fields (length_field n), fields-fit);
}

pub writable_response_from : (head : ResponseHead) (room : Room) → has_framing head.fields ≡ false → IsPlainResponse head → length head.fields < room.fields
    → length (response_head_text head (Some longest_body)) ≤ room.octets → IsWritableResponse head room
writable_response_from head room no_framing plain fields_fit octets_fit =
    let text = response_head_text head (Some longest_body) in
    let back = written_response head room longest_body [] (omega arith) plain fields_fit octets_fit in
    record {
      no_framing = no_framing;
      read_back = subst (λ (o : List ℕ). BeginsWrittenResponse o room head (Some longest_body)) (append-nil text) back;
    }

pub writable_response_parts : (head : ResponseHead) (room : Room) → IsWritableResponse head room → ResponseParts head room
writable_response_parts head room writable =
    let whole = begun_response_plain _ _ _ writable.read_back.begins in
    record {
      no_framing = writable.no_framing;
      plain = record { least = whole.least; greatest = whole.greatest; fields = without_length_plain head.fields (length_field longest_body) whole.fields };
      fields_fit = omega (arith, writable.read_back.fields_fit, length_push head.fields (length_field longest_body));
      octets_fit = writable.read_back.octets_fit;
    }

length-response_by : (head : ResponseHead) (n : ℕ)
    → length (response_head_text head (Some n)) ≡ length (response_head_text head None) + 18 + length (decimal n)
length-response_by head n =
    omega (arith, length-append (status_line head) (section_text (with_length head.fields (Some n))), length-append (status_line head) (section_text head.fields), length-section head.fields n (length (decimal n)) refl, length-append (flat_map field_line head.fields) (codes "\r\n"))

-- a writable head, written with any length of a body or none, is read as it was written, whatever follows
pub response_read_back : (head : ResponseHead) (room : Room) → IsWritableResponse head room → (size : Option ℕ) → IfSome size (λ n. n ≤ longest_body) → (more : List ℕ)
    → BeginsWrittenResponse (response_head_text head size ++ more) room head size
response_read_back head room writable None short more =
    let parts = writable_response_parts head room writable in
    record {
      begins = plain_response_begins head more parts.plain;
      octets_fit = omega (arith, parts.octets_fit, length-response_by head longest_body);
      fields_fit = omega (arith, parts.fields_fit);
    }
response_read_back head room writable (Some n) short more =
    let parts = writable_response_parts head room writable in
    let digits = length-decimal-le 8 n (omega arith) (omega (arith, short)) (omega (arith, short)) in
    written_response head room n more (omega (arith, short)) parts.plain parts.fields_fit
    (omega (arith, parts.octets_fit, length-response_by head longest_body, length-response_by head n, digits, ap length longest_digits))
