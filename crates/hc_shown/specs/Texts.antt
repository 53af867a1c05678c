-- How a record is shown.
use Rattle.std.specs.Prelude.{◌≡◌, ◌-◌, ◌++◌, ◌==◌, ℕ, List, [], ◌∷◌, length, Option, Some, None, codes, decimal, if◌then◌else◌, nat_le}
use Rattle.std.specs.List.{flat_map}
use Rattle.hc_fields.specs.declared.fields.Field.{Field}
use Rattle.hc_framing.specs.declared.message.Message.{Message}
use Rattle.hc_head.specs.declared.head.RequestHead.{RequestHead}
use Rattle.hc_head.specs.declared.head.ResponseHead.{ResponseHead}
use Rattle.hc_head.specs.declared.head.Target.{Target}
use Rattle.hc_head.specs.declared.head.Version.{Version}
use Rattle.hc_head.specs.declared.head.Version.TheVariants.{Http10, Http11}
use Rattle.hc_transcript.specs.declared.item.Meaning.{Meaning}
use Rattle.hc_transcript.specs.declared.item.Meaning.TheVariants as meaning
use Rattle.hc_transcript.specs.Items.{Item, ClientRequest, OriginRequest, OriginResponse, OriginFailure, ClientReply, moment_of}
use Rattle.hc_shown.specs.Moments.{AddsMoment}
use Rattle.hc_shown.specs.Octets.{first_text, octets_text}
use Rattle.hc_shown.specs.Values.{target_text, value_text}

-- ---- what passed

-- how many octets of a body are shown at most
abbrev pub most_of_body : ℕ
most_of_body = 256

-- how many there are besides, of so many
abbrev pub more_text : ℕ → List ℕ
more_text count = if nat_le count most_of_body then [] else codes ", and " ++ (decimal (count - most_of_body) ++ codes " more")

-- the line on octets of a body
abbrev pub some_text : List ℕ → List ℕ
some_text octets =
    codes "  " ++ (decimal (length octets) ++ (codes " octets: \"" ++ (first_text most_of_body octets ++ (codes "\"" ++ (more_text (length octets) ++ 10 ∷ [])))))

-- and on a body, if it isn't empty
abbrev pub body_text : List ℕ → List ℕ
body_text octets = if length octets == 0 then [] else some_text octets

-- the line of a field
abbrev pub field_text : Field → List ℕ
field_text field = codes "  " ++ (octets_text field.name ++ (codes ": " ++ (value_text field.name field.value ++ 10 ∷ [])))

abbrev pub version_name : Version → List ℕ
version_name Http10 = codes "HTTP/1.0"
version_name Http11 = codes "HTTP/1.1"

-- a request for a target
abbrev pub request_text : Message RequestHead → Target → List ℕ
request_text request target =
    octets_text request.head.method ++ (codes " " ++ (target_text target ++ (codes " " ++ (version_name request.head.version ++ (codes "\n"
    ++ (flat_map field_text request.head.fields ++ body_text request.body))))))

-- a response
abbrev pub response_text : Message ResponseHead → List ℕ
response_text response =
    version_name response.head.version ++ (codes " " ++ (decimal response.head.status ++ (codes "\n"
    ++ (flat_map field_text response.head.fields ++ body_text response.body))))

-- what passed
abbrev pub content_text : Meaning → List ℕ
content_text (meaning.ClientRequest request target) = request_text request target
content_text (meaning.OriginRequest request target cause) = request_text request target
content_text (meaning.OriginResponse response) = response_text response
content_text meaning.OriginFailure = codes "no answer\n"
content_text (meaning.ClientReply reply) = response_text reply

-- ---- where it stands

-- the letter of its kind, as the format has it
abbrev pub letter_of : Meaning → List ℕ
letter_of (meaning.ClientRequest request target) = codes "q"
letter_of (meaning.OriginRequest request target cause) = codes "f"
letter_of (meaning.OriginResponse response) = codes "r"
letter_of meaning.OriginFailure = codes "x"
letter_of (meaning.ClientReply reply) = codes "a"

-- for which exchange a forward was made, if that is told
abbrev pub told_cause_text : Option ℕ → List ℕ
told_cause_text None = []
told_cause_text (Some exchange) = codes " for " ++ decimal exchange

abbrev pub cause_text : Meaning → List ℕ
cause_text (meaning.ClientRequest request target) = []
cause_text (meaning.OriginRequest request target cause) = told_cause_text cause
cause_text (meaning.OriginResponse response) = []
cause_text meaning.OriginFailure = []
cause_text (meaning.ClientReply reply) = []

-- the position of the record, its letter and its number
abbrev pub place_text : ℕ → ℕ → Meaning → List ℕ
place_text position number of =
    decimal position ++ (codes " " ++ (letter_of of ++ (codes " " ++ (decimal number ++ (cause_text of ++ codes "  ")))))

-- ---- the record

-- the meaning of an item
abbrev pub meaning_of : Item → Meaning
meaning_of (ClientRequest number moment request target) = meaning.ClientRequest request target
meaning_of (OriginRequest number moment request target cause) = meaning.OriginRequest request target cause
meaning_of (OriginResponse number moment response) = meaning.OriginResponse response
meaning_of (OriginFailure number moment) = meaning.OriginFailure
meaning_of (ClientReply number moment reply) = meaning.ClientReply reply

abbrev pub number_of : Item → ℕ
number_of (ClientRequest number moment request target) = number
number_of (OriginRequest number moment request target cause) = number
number_of (OriginResponse number moment response) = number
number_of (OriginFailure number moment) = number
number_of (ClientReply number moment reply) = number

-- the text is that of the record at that position: its place, its moment and what passed
abbrev pub IsRecordText : ℕ → Item → List ℕ → Type 0
IsRecordText position item text =
    (timed : List ℕ) × AddsMoment (moment_of item) (place_text position (number_of item) (meaning_of item)) timed
    × (text ≡ timed ++ (codes "  " ++ content_text (meaning_of item)))

-- it was put behind what was there
abbrev pub AddsRecord : ℕ → Item → List ℕ → List ℕ → Type 0
AddsRecord position item old new = (text : List ℕ) × IsRecordText position item text × (new ≡ old ++ text)
