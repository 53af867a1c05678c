-- Heads whose parts lie in octets that somebody else keeps.
use Rattle.std.specs.Prelude.{ℕ, ◌-◌, ◌≤◌, not, bytes_eq, List, filter, map, take, Option, Some, None, Result, Ok, Err}
use Rattle.httparse.specs.declared.spans.HeaderSpan.{HeaderSpan}
use Rattle.httparse.specs.declared.spans.RequestSpans.{RequestSpans}
use Rattle.httparse.specs.Spans.{span_bytes}
use Rattle.hc_fields.specs.declared.fields.Field.{Field}
use Rattle.hc_fields.specs.declared.views.LineSpan.{LineSpan}
use Rattle.hc_fields.specs.Views.{piece, line_at}
use Rattle.hc_head.specs.declared.fault.HeadFault.{HeadFault}
use Rattle.hc_head.specs.declared.head.RequestHead.{RequestHead}
use Rattle.hc_head.specs.declared.head.ResponseHead.{ResponseHead}
use Rattle.hc_head.specs.declared.head.Step.{Step}
use Rattle.hc_head.specs.declared.head.Step.TheVariants.{More, Whole}
use Rattle.hc_head.specs.declared.places.HeadPlaces.{HeadPlaces}
use Rattle.hc_head.specs.declared.responses.FoundResponse.{FoundResponse}
use Rattle.hc_head.specs.Heads.{field_at, version_of}

-- ---- places

-- the field lines that stand there in the octets
abbrev pub lines_at : HeadPlaces → List ℕ → List Field
lines_at p octets = map (line_at p.names.items octets) p.lines.items

-- the head of a request that stands there
abbrev pub request_at : HeadPlaces → List ℕ → RequestHead
request_at p octets = record {
  method = piece octets p.method.start p.method.len;
  target = piece octets p.target.start p.target.len;
  version = p.version;
  fields = lines_at p octets;
}

-- the head of a response that stands there
abbrev pub response_at : HeadPlaces → List ℕ → ResponseHead
response_at p octets = record { status = p.status; version = p.version; fields = lines_at p octets }

-- where what the spans of a line cover stands, its name among the octets in lower case
abbrev pub line_of : HeaderSpan → LineSpan
line_of h = record {
  name_start = h.name.start;
  name_len = h.name.end - h.name.start;
  value_start = h.value.start;
  value_len = h.value.end - h.value.start;
}

-- the spans of a line end behind where they begin
abbrev pub AreOrdered : HeaderSpan → Type 0
AreOrdered h = (h.name.start ≤ h.name.end) × (h.value.start ≤ h.value.end)

-- the lines whose names, among those in lower case, are others
abbrev pub without_named : List ℕ → List ℕ → List LineSpan → List LineSpan
without_named names name lines = filter (λ l. not (bytes_eq (piece names l.name_start l.name_len) name)) lines

-- an answer that tells how long the head is, as one that tells the head
abbrev pub told : {H : Type 0} → H → Result (Option ℕ) HeadFault → Result (Step H) HeadFault
told head (Ok None) = Ok More
told head (Ok (Some len)) = Ok (Whole head len)
told head (Err fault) = Err fault

-- ---- spans

-- the head that the spans of a request cover
abbrev pub covered_request : List ℕ → List HeaderSpan → RequestSpans → RequestHead
covered_request octets spans found = record {
  method = span_bytes octets found.method;
  target = span_bytes octets found.path;
  version = version_of found.version;
  fields = map (field_at octets) (take found.headers spans);
}

-- the head that the spans of a response cover
abbrev pub covered_response : List ℕ → List HeaderSpan → FoundResponse → ResponseHead
covered_response octets spans found = record {
  status = found.status;
  version = version_of found.spans.version;
  fields = map (field_at octets) (take found.spans.headers spans);
}

-- an answer that tells spans, as one that tells the head that they cover
abbrev pub covered : {S H : Type 0} → (S → H) → Result (Step S) HeadFault → Result (Step H) HeadFault
covered head_of (Ok More) = Ok More
covered head_of (Ok (Whole found len)) = Ok (Whole (head_of found) len)
covered head_of (Err fault) = Err fault

-- what is claimed of the spans that an answer tells, and of the length that it tells with them
abbrev pub OnSpans : {S : Type 0} → (S → ℕ → Type 0) → Result (Step S) HeadFault → Type 0
OnSpans claim (Ok More) = Unit {0}
OnSpans claim (Ok (Whole found len)) = claim found len
OnSpans claim (Err fault) = Unit {0}
