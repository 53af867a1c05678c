-- The heads of requests and responses (RFC 9112 sections 3 to 5), over the grammar of their octets that `httparse` reads.
use Rattle.std.specs.Prelude.{◌≡◌, ℕ, ◌≤◌, zero, suc, List, length, map}
use Rattle.std.specs.Str.{str_to_ascii_lowercase}
use Rattle.httparse.specs.declared.spans.HeaderSpan.{HeaderSpan}
use Rattle.httparse.specs.Grammar.{Field as Line, field_value, RequestHead as RequestSyntax, ReadsRequest, print_request, ResponseHead as ResponseSyntax, ReadsResponse, print_response, status_code}
use Rattle.httparse.specs.Spans.{span_bytes}
use Rattle.hc_fields.specs.declared.fields.Field.{Field}
use Rattle.hc_head.specs.declared.head.RequestHead.{RequestHead}
use Rattle.hc_head.specs.declared.head.ResponseHead.{ResponseHead}
use Rattle.hc_head.specs.declared.head.Version.{Version}
use Rattle.hc_head.specs.declared.head.Version.TheVariants.{Http10, Http11}

-- a name and a value, the name in lower case
abbrev pub lower_field : List ℕ × List ℕ → Field
lower_field f = record { name = str_to_ascii_lowercase f.0; value = f.1 }

-- the field that a line of the grammar writes
abbrev pub field_of : Line → Field
field_of f = lower_field (f.name, field_value f)

-- the field that the spans of a line cover
abbrev pub field_at : List ℕ → HeaderSpan → Field
field_at octets h = lower_field (span_bytes octets h.name, span_bytes octets h.value)

abbrev pub version_of : ℕ → Version
version_of zero = Http10
version_of (suc _) = Http11

-- the head that a request's syntax writes
abbrev pub request_head_of : RequestSyntax → RequestHead
request_head_of h = record { method = h.method; target = h.target; version = version_of h.minor; fields = map field_of h.fields }

-- the head that a response's syntax writes, without the reason phrase
abbrev pub response_head_of : ResponseSyntax → ResponseHead
response_head_of h = record { status = status_code h; version = version_of h.minor; fields = map field_of h.fields }

-- the octets begin with the head of a request, which takes len of them
pub record BeginsRequestHead (octets : List ℕ) (head : RequestHead) (len : ℕ) : Type 0 where
  pub syntax : RequestSyntax
  pub rest : List ℕ
  pub reads : ReadsRequest octets syntax rest
  pub len_is : len ≡ length (print_request syntax)
  pub head_is : head ≡ request_head_of syntax

-- the octets begin with the head of a response, which takes len of them; a status is 100 at least (RFC 9110 section 15)
pub record BeginsResponseHead (octets : List ℕ) (head : ResponseHead) (len : ℕ) : Type 0 where
  pub syntax : ResponseSyntax
  pub rest : List ℕ
  pub reads : ReadsResponse octets syntax rest
  pub len_is : len ≡ length (print_response syntax)
  pub head_is : head ≡ response_head_of syntax
  pub has_status : 100 ≤ head.status

abbrev pub request_field_count : RequestHead → ℕ
request_field_count head = length head.fields

abbrev pub response_field_count : ResponseHead → ℕ
response_field_count head = length head.fields
