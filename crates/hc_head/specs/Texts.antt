-- The text of a head as it is written (RFC 9112 sections 3 to 5): each line ends in CR LF, a colon and a space stand between
-- a name and its value, and the reason phrase is empty.
use Rattle.std.specs.Prelude.{ℕ, List, [], ◌∷◌, ◌++◌, Option, Some, None, codes, decimal, flat_map}
use Rattle.hc_fields.specs.declared.fields.Field.{Field}
use Rattle.hc_head.specs.declared.head.RequestHead.{RequestHead}
use Rattle.hc_head.specs.declared.head.ResponseHead.{ResponseHead}
use Rattle.hc_head.specs.declared.head.Version.{Version}
use Rattle.hc_head.specs.declared.head.Version.TheVariants.{Http10, Http11}

abbrev pub version_text : Version → List ℕ
version_text Http10 = codes "HTTP/1.0"
version_text Http11 = codes "HTTP/1.1"

-- method SP request-target SP HTTP-version CRLF
abbrev pub request_line : RequestHead → List ℕ
request_line head = head.method ++ codes " " ++ head.target ++ codes " " ++ version_text head.version ++ codes "\r\n"

-- HTTP-version SP status-code SP CRLF
abbrev pub status_line : ResponseHead → List ℕ
status_line head = version_text head.version ++ codes " " ++ decimal head.status ++ codes " \r\n"

-- field-name ":" SP field-value CRLF
abbrev pub field_line : Field → List ℕ
field_line f = f.name ++ codes ": " ++ f.value ++ codes "\r\n"

-- the field lines, and the empty line that ends them
abbrev pub section_text : List Field → List ℕ
section_text fields = flat_map field_line fields ++ codes "\r\n"

-- the field that tells how long the body is (RFC 9110 section 8.6)
abbrev pub length_field : ℕ → Field
length_field n = record { name = codes "content-length"; value = decimal n }

-- the fields, and last that of the length where it is given
abbrev pub with_length : List Field → Option ℕ → List Field
with_length fields None = fields
with_length fields (Some n) = fields ++ length_field n ∷ []

abbrev pub request_with_length : RequestHead → Option ℕ → RequestHead
request_with_length head size = record head { fields = with_length head.fields size }

abbrev pub response_with_length : ResponseHead → Option ℕ → ResponseHead
response_with_length head size = record head { fields = with_length head.fields size }

-- the text of a request's head, with the field of the length where that is given
abbrev pub request_head_text : RequestHead → Option ℕ → List ℕ
request_head_text head size = request_line head ++ section_text (with_length head.fields size)

-- the text of a response's head, with the field of the length where that is given
abbrev pub response_head_text : ResponseHead → Option ℕ → List ℕ
response_head_text head size = status_line head ++ section_text (with_length head.fields size)
