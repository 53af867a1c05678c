-- How the body behind a head is framed (RFC 9112 section 6.3).
use Rattle.std.specs.Prelude.{ℕ, Bool, ◌&&◌, ◌||◌, not, List, [], ◌∷◌, length, Option, Some, None, Result, Ok, Err, if◌then◌else◌, ◌==◌, nat_lt, nat_le, true, false, codes}
use Rattle.std.specs.Bool.{⊤}
use Rattle.std.specs.List.{list_all, flat_map, slice_split}
use Rattle.std.specs.Option.{ok_or}
use Rattle.std.specs.Str.{str_eq_ignore_ascii_case}
use Rattle.std.specs.Str.Parse.{digits_value}
use Rattle.hc_fields.specs.declared.fields.Field.{Field}
use Rattle.hc_fields.specs.Values.{values_of, has_name}
use Rattle.hc_fields.specs.Lists.{trimmed}
use Rattle.hc_fields.specs.Numbers.{is_number}
use Rattle.hc_head.specs.declared.head.Version.{Version}
use Rattle.hc_head.specs.declared.head.Version.TheVariants.{Http10, Http11}
use Rattle.hc_head.specs.Statuses.{is_interim, no_content, not_modified}
use Rattle.hc_head.specs.Writable.{longest_body}
use Rattle.hc_framing.specs.declared.fault.FrameFault.{FrameFault}
use Rattle.hc_framing.specs.declared.fault.FrameFault.TheVariants.{BothLengths, BadLength, BadCoding, BodyTooLong}
use Rattle.hc_framing.specs.declared.framing.Framing.{Framing}
use Rattle.hc_framing.specs.declared.framing.Framing.TheVariants.{Nothing, Sized, Chunked, UntilClose}

-- what follows where there is no fault
infixl 10 ◌>>=◌
abbrev pub ◌>>=◌ : {A B : Type 0} → Result A FrameFault → (A → Result B FrameFault) → Result B FrameFault
(Ok x) >>= f = f x
(Err fault) >>= f = Err fault

-- the fault where the test holds
abbrev pub refuse : Bool → FrameFault → Result ⊤ FrameFault
refuse test fault = if test then Err fault else Ok tt

-- ---- the members of a list

-- what parts the members
abbrev pub is_comma : ℕ → Bool
is_comma octet = octet == 44

-- the parts between commas, of which there is one at least
abbrev pub members_of : List ℕ → List (List ℕ)
members_of value = slice_split is_comma value

-- ---- Content-Length

-- the number that a member writes in 1 to 18 digits
abbrev pub member_length : List ℕ → Option ℕ
member_length member =
    let digits = trimmed member in
    if is_number digits && nat_le (length digits) 18 then Some (digits_value 10 digits) else None

-- what the first of the members writes
abbrev pub first_length : List (List ℕ) → Option ℕ
first_length [] = None
first_length (member ∷ members) = member_length member

-- whether there is a number, and it is that one
abbrev pub is_number_of : ℕ → Option ℕ → Bool
is_number_of size None = false
is_number_of size (Some number) = number == size

-- whether each of the members writes that number
abbrev pub each_writes : ℕ → List (List ℕ) → Bool
each_writes size members = list_all (λ member. is_number_of size (member_length member)) members

-- the length that each of the members writes, at most that of the longest body
abbrev pub common_length : List (List ℕ) → Result ℕ FrameFault
common_length members = do
  size ← ok_or (first_length members) BadLength
  _ ← refuse (not (each_writes size members)) BadLength
  _ ← refuse (nat_lt longest_body size) BodyTooLong
  Ok size

-- the framing by the values of Content-Length, or the default where there are none
abbrev pub sized_by : Framing → List (List ℕ) → Result Framing FrameFault
sized_by default [] = Ok default
sized_by default (value ∷ values) = do
  size ← common_length (flat_map members_of (value ∷ values))
  Ok (Sized size)

-- the framing of a message with no Transfer-Encoding
abbrev pub sized : Framing → List Field → Result Framing FrameFault
sized default fields = sized_by default (values_of (codes "content-length") fields)

-- ---- Transfer-Encoding

-- the framing by the values of Transfer-Encoding: there is one, and it is `chunked` in any case
abbrev pub coded_by : List (List ℕ) → Result Framing FrameFault
coded_by (value ∷ []) = if str_eq_ignore_ascii_case (trimmed value) (codes "chunked") then Ok Chunked else Err BadCoding
coded_by _ = Err BadCoding

-- the framing of a message with a Transfer-Encoding
abbrev pub coded : List Field → Result Framing FrameFault
coded fields = coded_by (values_of (codes "transfer-encoding") fields)

-- ---- the rules in their order

-- a version that has no transfer codings
abbrev pub is_http10 : Version → Bool
is_http10 Http10 = true
is_http10 Http11 = false

-- the framing by the fields, or the default where none of them tells it
abbrev pub framing_by : Framing → Version → List Field → Result Framing FrameFault
framing_by default version fields = do
  let has_coding = has_name (codes "transfer-encoding") fields
  _ ← refuse (has_coding && has_name (codes "content-length") fields) BothLengths
  _ ← refuse (has_coding && is_http10 version) BadLength
  if has_coding then coded fields else sized default fields

-- how the body of a request is framed
abbrev pub request_framing : Version → List Field → Result Framing FrameFault
request_framing version fields = framing_by Nothing version fields

-- a response that ends with its head, whatever its fields say: to HEAD, or of status 1xx, 204 or 304
abbrev pub ends_with_head : Bool → ℕ → Bool
ends_with_head to_head status = to_head || (is_interim status || (status == no_content || status == not_modified))

-- how the body of a response is framed, to a HEAD request or another
abbrev pub response_framing : Bool → ℕ → Version → List Field → Result Framing FrameFault
response_framing to_head status version fields = if ends_with_head to_head status then Ok Nothing else framing_by UntilClose version fields

-- the faults that the fields of a head show
abbrev pub IsFramingFault : FrameFault → Type 0
IsFramingFault BothLengths = Unit {0}
IsFramingFault BadLength = Unit {0}
IsFramingFault BadCoding = Unit {0}
IsFramingFault BodyTooLong = Unit {0}
IsFramingFault fault = ⊥
