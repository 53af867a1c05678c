-- Which heads are read as themselves once they are written.
use Rattle.std.specs.Prelude.{◌≡◌, ℕ, Bool, false, ◌||◌, List, length, Option, Some, codes}
use Rattle.hc_fields.specs.declared.fields.Field.{Field}
use Rattle.hc_fields.specs.Values.{has_name}
use Rattle.hc_head.specs.declared.head.RequestHead.{RequestHead}
use Rattle.hc_head.specs.declared.head.ResponseHead.{ResponseHead}
use Rattle.hc_head.specs.declared.head.Room.{Room}
use Rattle.hc_head.specs.Heads.{BeginsRequestHead, request_field_count, BeginsResponseHead, response_field_count}
use Rattle.hc_head.specs.Reading.{IsWholeHead}
use Rattle.hc_head.specs.Texts.{request_with_length, response_with_length, request_head_text, response_head_text}

-- whether a field frames the body (RFC 9112 section 6)
abbrev pub has_framing : List Field → Bool
has_framing fields = has_name (codes "content-length") fields || has_name (codes "transfer-encoding") fields

-- the length of the longest body
abbrev pub longest_body : ℕ
longest_body = 16777216

-- the octets begin with the head and that length, which keep to the room and take as many octets as their text has
abbrev pub BeginsWrittenRequest : List ℕ → Room → RequestHead → Option ℕ → Type 0
BeginsWrittenRequest octets room head size =
    IsWholeHead BeginsRequestHead request_field_count octets room (request_with_length head size) (length (request_head_text head size))

abbrev pub BeginsWrittenResponse : List ℕ → Room → ResponseHead → Option ℕ → Type 0
BeginsWrittenResponse octets room head size =
    IsWholeHead BeginsResponseHead response_field_count octets room (response_with_length head size) (length (response_head_text head size))

-- no field frames the body, and the text with the length of the longest body is read in the room as what was written
pub record IsWritableRequest (head : RequestHead) (room : Room) : Type 0 where
  pub no_framing : has_framing head.fields ≡ false
  pub read_back : BeginsWrittenRequest (request_head_text head (Some longest_body)) room head (Some longest_body)

pub record IsWritableResponse (head : ResponseHead) (room : Room) : Type 0 where
  pub no_framing : has_framing head.fields ≡ false
  pub read_back : BeginsWrittenResponse (response_head_text head (Some longest_body)) room head (Some longest_body)
