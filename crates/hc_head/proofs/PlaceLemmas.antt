-- What stands in octets stands in each front of them that reaches so far, and in lower case among the octets in lower case.
use Rattle.std.proofs.Common.{◌≡◌, ℕ, ◌+◌, ◌-◌, ◌≤◌, Bool, true, false, not, List, [], ◌∷◌, ◌++◌, All, length, take, drop, map, bytes_eq, refl, sym, ap, ◌∙◌, arith, length-take, length-drop, cond}
use Rattle.std.specs.Str.{str_to_ascii_lowercase}
use Rattle.std.specs.Char.{to_ascii_lowercase}
use Rattle.std.proofs.lemmas.List.{take-append-drop, take-append-le, drop-append-le, take-map, drop-map}
use Rattle.std.proofs.lemmas.List.Elements.{All-head, All-tail, All-weaker}
use Rattle.httparse.specs.declared.spans.Span.{Span}
use Rattle.httparse.specs.declared.spans.HeaderSpan.{HeaderSpan}
use Rattle.httparse.specs.declared.spans.RequestSpans.{RequestSpans}
use Rattle.httparse.specs.Spans.{span_bytes, IsWithin, IsHeaderWithin, IsSectionWithin, IsRequestWithin, IsResponseWithin}
use Rattle.hc_fields.specs.declared.fields.Field.{Field}
use Rattle.hc_fields.specs.declared.views.LineSpan.{LineSpan}
use Rattle.hc_fields.specs.Values.{without}
use Rattle.hc_fields.specs.Views.{piece, line_at}
use Rattle.hc_head.specs.declared.responses.FoundResponse.{FoundResponse}
use Rattle.hc_head.specs.Heads.{field_at, version_of}
use Rattle.hc_head.specs.Places.{AreOrdered, line_of, without_named, covered_request, covered_response}

-- ---- fronts

piece_stays : (front more : List ℕ) (s l : ℕ) → s + l ≤ length front → piece (front ++ more) s l ≡ piece front s l
piece_stays front more s l within =
    ap (λ (o : List ℕ). take l o) (drop-append-le s front more (omega (arith, within)))
    ∙ take-append-le l (drop s front) more (omega (arith, within, length-drop s front))

span_in_front : (octets : List ℕ) (n : ℕ) (s : Span) → IsWithin (length (take n octets)) s → span_bytes octets s ≡ span_bytes (take n octets) s
span_in_front octets n s within =
    ap (λ (o : List ℕ). span_bytes o s) (sym (take-append-drop n octets))
    ∙ piece_stays (take n octets) (drop n octets) s.start (s.end - s.start) (omega (arith, within.0, within.1))

line_in_front : (octets : List ℕ) (n len : ℕ) (h : HeaderSpan) → len ≤ length (take n octets) → IsHeaderWithin len h
    → field_at octets h ≡ field_at (take n octets) h
line_in_front octets n len h le within =
    let name = span_in_front octets n h.name (within.0.0, omega (arith, within.0.1, le)) in
    let value = span_in_front octets n h.value (within.1.0, omega (arith, within.1.1, le)) in
    λ i. record { name = str_to_ascii_lowercase (name i); value = value i }

lines_in_front : (octets : List ℕ) (n len : ℕ) (hs : List HeaderSpan) → len ≤ length (take n octets) → All (IsHeaderWithin len) hs
    → map (field_at octets) hs ≡ map (field_at (take n octets)) hs
lines_in_front octets n len [] le all = refl
lines_in_front octets n len (h ∷ hs) le all =
    let here = line_in_front octets n len h le (All-head (IsHeaderWithin len) h hs all) in
    let rest = lines_in_front octets n len hs le (All-tail (IsHeaderWithin len) h hs all) in
    λ i. here i ∷ rest i

longer : (n len : ℕ) (octets : List ℕ) (s : Span) → len ≤ length (take n octets) → IsWithin len s → IsWithin (length (take n octets)) s
longer n len octets s le within = (within.0, omega (arith, within.1, le))

pub request_in_front : (octets : List ℕ) (n : ℕ) (spans : List HeaderSpan) (found : RequestSpans) → IsRequestWithin (take n octets) spans found
    → covered_request octets spans found ≡ covered_request (take n octets) spans found
request_in_front octets n spans found within =
    let le = within.section.len_fits in
    let method = span_in_front octets n found.method (longer n found.len octets found.method le within.method) in
    let target = span_in_front octets n found.path (longer n found.len octets found.path le within.path) in
    let fields = lines_in_front octets n found.len (take found.headers spans) le within.section.headers_fit in
    λ i. record { method = method i; target = target i; version = version_of found.version; fields = fields i }

pub response_in_front : (octets : List ℕ) (n : ℕ) (spans : List HeaderSpan) (found : FoundResponse) → IsResponseWithin (take n octets) spans found.spans
    → covered_response octets spans found ≡ covered_response (take n octets) spans found
response_in_front octets n spans found within =
    let fields = lines_in_front octets n found.spans.len (take found.spans.headers spans) within.section.len_fits within.section.headers_fit in
    λ i. record { status = found.status; version = version_of found.spans.version; fields = fields i }

-- ---- names in lower case

lower_piece : (octets : List ℕ) (s l : ℕ) → piece (str_to_ascii_lowercase octets) s l ≡ str_to_ascii_lowercase (piece octets s l)
lower_piece octets s l =
    ap (λ (o : List ℕ). take l o) (drop-map to_ascii_lowercase s octets) ∙ take-map to_ascii_lowercase l (drop s octets)

line_kept : (octets : List ℕ) (len : ℕ) (h : HeaderSpan) → len ≤ length octets → IsHeaderWithin len h
    → line_at (str_to_ascii_lowercase (take len octets)) octets (line_of h) ≡ field_at octets h
line_kept octets len h le within =
    let short : len ≤ length (take len octets) = omega (arith, le, length-take len octets) in
    let front = span_in_front octets len h.name (longer len len octets h.name short within.0) in
    let name = lower_piece (take len octets) h.name.start (h.name.end - h.name.start) ∙ ap str_to_ascii_lowercase (sym front) in
    λ i. record { name = name i; value = span_bytes octets h.value }

lines_kept : (octets : List ℕ) (len : ℕ) (hs : List HeaderSpan) → len ≤ length octets → All (IsHeaderWithin len) hs
    → map (line_at (str_to_ascii_lowercase (take len octets)) octets) (map line_of hs) ≡ map (field_at octets) hs
lines_kept octets len [] le all = refl
lines_kept octets len (h ∷ hs) le all =
    let here = line_kept octets len h le (All-head (IsHeaderWithin len) h hs all) in
    let rest = lines_kept octets len hs le (All-tail (IsHeaderWithin len) h hs all) in
    λ i. here i ∷ rest i

pub section_kept : (octets names : List ℕ) (lines : List LineSpan) (spans : List HeaderSpan) (len count : ℕ) → IsSectionWithin octets spans len count
    → names ≡ str_to_ascii_lowercase (take len octets) → lines ≡ map line_of (take count spans)
    → map (line_at names octets) lines ≡ map (field_at octets) (take count spans)
section_kept octets names lines spans len count within names-is lines-is =
    (λ i. map (line_at (names-is i) octets) (lines-is i)) ∙ lines_kept octets len (take count spans) within.len_fits within.headers_fit

pub all_ordered : (len : ℕ) (hs : List HeaderSpan) → All (IsHeaderWithin len) hs → All AreOrdered hs
all_ordered len hs = All-weaker (IsHeaderWithin len) AreOrdered (λ h within. (within.0.0, within.1.0)) hs

-- ---- lines left out

without_first : (names octets name : List ℕ) (l : LineSpan) (lines : List LineSpan) (kept : Bool)
    → map (line_at names octets) (without_named names name lines) ≡ without name (map (line_at names octets) lines)
    → map (line_at names octets) (cond kept (l ∷ without_named names name lines) (without_named names name lines))
    ≡ cond kept (line_at names octets l ∷ without name (map (line_at names octets) lines)) (without name (map (line_at names octets) lines))
without_first names octets name l lines true rest = ap (λ (ls : List Field). line_at names octets l ∷ ls) rest
without_first names octets name l lines false rest = rest

pub lines_without : (names octets name : List ℕ) (lines : List LineSpan)
    → map (line_at names octets) (without_named names name lines) ≡ without name (map (line_at names octets) lines)
lines_without names octets name [] = refl
lines_without names octets name (l ∷ lines) =
    without_first names octets name l lines (not (bytes_eq (piece names l.name_start l.name_len) name)) (lines_without names octets name lines)
