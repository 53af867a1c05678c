-- How long heads are as they are written, against the octets that they were read from.
use Rattle.std.proofs.Common.{◌≡◌, ℕ, ◌+◌, ◌*◌, ◌<◌, ◌≤◌, Bool, true, false, cond, List, [], ◌∷◌, ◌++◌, length, map, reverse, flat_map, Option, Some, refl, ap, arith, length-append}
use Rattle.std.specs.Prelude.{codes, decimal, filter}
use Rattle.std.specs.Char.{to_ascii_lowercase}
use Rattle.std.proofs.lemmas.List.{length-map, length-reverse}
use Rattle.std.proofs.lemmas.List.Sums.{sum_by-cons, sum_by-append, sum_by_push}
use Rattle.httparse.specs.Grammar.{is_ows, LineEnd, crlf, lf, print_end, Field as Line, print_field, skip_ows, trim_ows, print_section, print_version, RequestHead as RequestSyntax, print_request, ResponseHead as ResponseSyntax, print_response}
use Rattle.hc_fields.specs.declared.fields.Field.{Field}
use Rattle.hc_head.specs.declared.head.RequestHead.{RequestHead}
use Rattle.hc_head.specs.declared.head.ResponseHead.{ResponseHead}
use Rattle.hc_head.specs.Heads.{field_of, BeginsRequestHead, BeginsResponseHead}
use Rattle.hc_head.specs.Texts.{request_line, status_line, field_line, section_text, length_field, with_length, request_head_text, response_head_text}
use Rattle.hc_head.specs.Weights.{line_weight, fields_weight}
use Rattle.hc_head.specs.Writable.{longest_body}
use Rattle.hc_head.proofs.WrittenLemmas.{longest_digits, length-version_text, length-field_line, status_digits}

-- ---- weights add up

pub weight_first : (f : Field) (fields : List Field) → fields_weight (f ∷ fields) ≡ line_weight f + fields_weight fields
weight_first f fields = sum_by-cons line_weight f fields

pub weight_both : (front back : List Field) → fields_weight (front ++ back) ≡ fields_weight front + fields_weight back
weight_both front back = sum_by-append line_weight front back

pub weight_fewer : (test : Field → Bool) (fields : List Field) → fields_weight (filter test fields) ≤ fields_weight fields
weight_fewer test [] = omega arith
weight_fewer test (f ∷ fields) = by_test (weight_fewer test fields) (test f)
  where
    by_test : fields_weight (filter test fields) ≤ fields_weight fields → (t : Bool)
        → fields_weight (cond t (f ∷ filter test fields) (filter test fields)) ≤ fields_weight (f ∷ fields)
    by_test later true = omega (arith, later, weight_first f (filter test fields), weight_first f fields)
    by_test later false = omega (arith, later, weight_first f fields)

pub length_fewer : (test : Field → Bool) (fields : List Field) → length (filter test fields) ≤ length fields
length_fewer test [] = omega arith
length_fewer test (f ∷ fields) = by_test (length_fewer test fields) (test f)
  where
    by_test : length (filter test fields) ≤ length fields → (t : Bool) → length (cond t (f ∷ filter test fields) (filter test fields)) ≤ length (f ∷ fields)
    by_test later true = omega (arith, later)
    by_test later false = omega (arith, later)

pub weight_written : (fields : List Field) → length (flat_map field_line fields) ≡ fields_weight fields
weight_written [] = refl
weight_written (f ∷ fields) =
    omega (arith, weight_written fields, weight_first f fields, length-field_line f, length-append (field_line f) (flat_map field_line fields))

-- ---- the text of a head

length-section_text : (fields : List Field) → length (section_text fields) ≡ fields_weight fields + 2
length-section_text fields = omega (arith, weight_written fields, length-append (flat_map field_line fields) (codes "\r\n"))

pub length-request : (head : RequestHead) (size : Option ℕ)
    → length (request_head_text head size) ≡ length head.method + length head.target + fields_weight (with_length head.fields size) + 14
length-request head size =
    let fields = with_length head.fields size in
    omega (arith, length-append (request_line head) (section_text fields), length-section_text fields, length-append {A = ℕ}, length-version_text head.version)

pub length-response : (head : ResponseHead) (size : Option ℕ) → 100 ≤ head.status → head.status < 1000
    → length (response_head_text head size) ≡ fields_weight (with_length head.fields size) + 17
length-response head size low high =
    let fields = with_length head.fields size in
    let status : length (decimal head.status) ≡ 3 = ap length (status_digits head.status low high) in
    omega (arith, length-append (status_line head) (section_text fields), length-section_text fields, status, length-append {A = ℕ}, length-version_text head.version)

pub weight_size : (fields : List Field) (n : ℕ) → fields_weight (with_length fields (Some n)) ≡ fields_weight fields + length (decimal n) + 18
weight_size fields n = omega (arith, sum_by_push line_weight fields (length_field n))

pub weight_longest : (fields : List Field) → fields_weight (with_length fields (Some longest_body)) ≡ fields_weight fields + 26
weight_longest fields = omega (arith, weight_size fields longest_body, ap length longest_digits)

-- ---- heads that were read

skip_shorter : (s : List ℕ) → length (skip_ows s) ≤ length s
skip_shorter [] = omega arith
skip_shorter (b ∷ s) = by_test (skip_shorter s) (is_ows b)
  where
    by_test : length (skip_ows s) ≤ length s → (t : Bool) → length (cond t (skip_ows s) (b ∷ s)) ≤ length (b ∷ s)
    by_test later true = omega (arith, later)
    by_test later false = omega arith

trim_shorter : (s : List ℕ) → length (trim_ows s) ≤ length s
unfolding trim_ows
trim_shorter s =
    omega (arith, length-reverse (skip_ows (reverse (skip_ows s))), skip_shorter (reverse (skip_ows s)), length-reverse (skip_ows s), skip_shorter s)

end_some : (end : LineEnd) → 0 < length (print_end end)
end_some crlf = omega arith
end_some lf = omega arith

line_short : (l : Line) → line_weight (field_of l) ≤ length (print_field l) + 2
line_short l =
    let name : length (field_of l).name ≡ length l.name = length-map l.name to_ascii_lowercase in
    let value : length (field_of l).value ≤ length l.raw = trim_shorter l.raw in
    let front : length (l.name ++ 58 ∷ l.raw) ≡ length l.name + length (58 ∷ l.raw) = length-append l.name (58 ∷ l.raw) in
    let line : length (print_field l) ≡ length (l.name ++ 58 ∷ l.raw) + length (print_end l.end) = length-append (l.name ++ 58 ∷ l.raw) (print_end l.end) in
    let end = end_some l.end in
    omega arith

lines_short : (lines : List Line) → fields_weight (map field_of lines) ≤ length (flat_map print_field lines) + 2 * length (map field_of lines)
lines_short [] = omega arith
lines_short (l ∷ lines) =
    omega (arith, lines_short lines, line_short l, weight_first (field_of l) (map field_of lines), length-append (print_field l) (flat_map print_field lines))

length-version : (minor : ℕ) → length (print_version minor) ≡ 8
length-version minor = refl

section_some : (lines : List Line) (last : LineEnd) → length (flat_map print_field lines) + 1 ≤ length (print_section lines last)
section_some lines last = omega (arith, length-append (flat_map print_field lines) (print_end last), end_some last)

printed_request : (h : RequestSyntax) → length h.method + length h.target + length (flat_map print_field h.fields) + 12 ≤ length (print_request h)
unfolding print_request
printed_request h =
    omega (arith, section_some h.fields h.last, end_some h.line_end, length-version h.minor, length-append {A = ℕ})

printed_response : (h : ResponseSyntax) → length h.digits ≡ 3 → length (flat_map print_field h.fields) + 14 ≤ length (print_response h)
unfolding print_response
printed_response h three =
    omega (arith, section_some h.fields h.last, end_some h.line_end, length-version h.minor, three, length-append {A = ℕ})

pub request_short : (octets : List ℕ) (head : RequestHead) (len : ℕ) → BeginsRequestHead octets head len
    → length head.method + length head.target + fields_weight head.fields + 12 ≤ len + 2 * length head.fields
request_short octets head len begins =
    let fields : head.fields ≡ map field_of begins.syntax.fields = ap (λ (h : RequestHead). h.fields) begins.head_is in
    omega (arith, begins.len_is, printed_request begins.syntax, lines_short begins.syntax.fields, ap fields_weight fields, ap length fields, ap (λ (h : RequestHead). length h.method) begins.head_is, ap (λ (h : RequestHead). length h.target) begins.head_is)

pub response_short : (octets : List ℕ) (head : ResponseHead) (len : ℕ) → BeginsResponseHead octets head len
    → fields_weight head.fields + 14 ≤ len + 2 * length head.fields
response_short octets head len begins =
    let fields : head.fields ≡ map field_of begins.syntax.fields = ap (λ (h : ResponseHead). h.fields) begins.head_is in
    omega (arith, begins.len_is, printed_response begins.syntax begins.reads.0.digits.0, lines_short begins.syntax.fields, ap fields_weight fields, ap length fields)
