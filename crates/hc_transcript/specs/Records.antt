-- The records of a transcript, and how they are written.
use Rattle.std.specs.Prelude.{◌≡◌, ℕ, Bool, true, false, List, [], ◌∷◌, ◌++◌, length, Option, Some, None, codes, if◌then◌else◌}
use Rattle.std.specs.Fmt.{decimal}
use Rattle.hc_transcript.specs.declared.format.Format.{Format}
use Rattle.hc_transcript.specs.declared.format.Format.TheVariants as form
use Rattle.hc_transcript.specs.declared.line.Kind.{Kind}
use Rattle.hc_transcript.specs.declared.line.Kind.TheVariants as kind
use Rattle.hc_transcript.specs.declared.line.Line.{Line}
use Rattle.hc_transcript.specs.declared.line.ToldCause.{ToldCause}
use Rattle.hc_transcript.specs.declared.line.ToldCause.TheVariants.{Untold, NoExchange, Exchange}
use Rattle.hc_transcript.specs.declared.record.Record.{Record}
use Rattle.hc_transcript.specs.declared.record.Passed.{Passed}
use Rattle.hc_transcript.specs.declared.record.Passed.TheVariants.{ClientRequest, OriginRequest, OriginResponse, OriginFailure, ClientReply}

-- the letter of a kind: q, f, r, x or a
abbrev pub letter : Kind → ℕ
letter kind.ClientRequest = 113
letter kind.OriginRequest = 102
letter kind.OriginResponse = 114
letter kind.OriginFailure = 120
letter kind.ClientReply = 97

-- a line has a cause in the second format, and there where it is that of a forward
abbrev pub line_has_cause : Format → Kind → Bool
line_has_cause form.Second kind.OriginRequest = true
line_has_cause format kind = false

-- the exchange that is told as the cause, where one is
abbrev pub exchange_told : ToldCause → Option ℕ
exchange_told (Exchange n) = Some n
exchange_told other = None

-- a space and the cause: the number of an exchange, or `-` for none
abbrev pub cause_text : ToldCause → List ℕ
cause_text Untold = []
cause_text NoExchange = 32 ∷ codes "-"
cause_text (Exchange n) = 32 ∷ decimal n

-- kind, number, moment and length, with a space between each two, and the cause where one is told
abbrev pub line_text : Line → List ℕ
line_text l = letter l.kind ∷ 32 ∷ (decimal l.number ++ 32 ∷ (decimal l.moment ++ 32 ∷ (decimal l.size ++ cause_text l.cause)))

-- the kind of what passed
abbrev pub passed_kind : Passed → Kind
passed_kind (ClientRequest message) = kind.ClientRequest
passed_kind (OriginRequest message cause) = kind.OriginRequest
passed_kind (OriginResponse message) = kind.OriginResponse
passed_kind OriginFailure = kind.OriginFailure
passed_kind (ClientReply message) = kind.ClientReply

-- the octets that passed; of a failure none
abbrev pub passed_octets : Passed → List ℕ
passed_octets (ClientRequest message) = message
passed_octets (OriginRequest message cause) = message
passed_octets (OriginResponse message) = message
passed_octets OriginFailure = []
passed_octets (ClientReply message) = message

-- the exchange that a forward was made for; none where no reply waits for it, and of all else
abbrev pub passed_cause : Passed → Option ℕ
passed_cause (OriginRequest message cause) = cause
passed_cause other = None

-- the octets of a record's message
abbrev pub message_of : Record → List ℕ
message_of r = passed_octets r.of

-- a cause as a line tells it
abbrev pub told : Option ℕ → ToldCause
told (Some n) = Exchange n
told None = NoExchange

-- a cause, as far as the format tells it: in the first nothing is told
abbrev pub told_in : Format → Option ℕ → ToldCause
told_in form.First cause = Untold
told_in form.Second cause = told cause

-- what the line of a record tells of its cause
abbrev pub told_cause : Format → Passed → ToldCause
told_cause format of = if line_has_cause format (passed_kind of) then told (passed_cause of) else Untold

-- what stands at the front of a transcript
abbrev pub opening : Format → List ℕ
opening form.First = codes "HCT1" ++ 10 ∷ []
opening form.Second = codes "HCT2" ++ 10 ∷ []

-- the format tells the record's cause: in the first there has to be none
abbrev pub CanTell : Format → Record → Type 0
CanTell form.First r = passed_cause r.of ≡ None
CanTell form.Second r = Unit {0}

module _ (format : Format) where
  -- the line that begins a record
  abbrev pub line_of : Record → Line
  line_of r =
      record { kind = passed_kind r.of; number = r.number; moment = r.moment; size = length (message_of r); cause = told_cause format r.of }

  -- a record: its line, the octets of its message, and a line feed behind each
  abbrev pub record_text : Record → List ℕ
  record_text r = line_text (line_of r) ++ 10 ∷ (message_of r ++ 10 ∷ [])

  -- the texts of the records, of which the newest comes first in the list and last in the text
  abbrev pub records_text : List Record → List ℕ
  records_text [] = []
  records_text (r ∷ records) = records_text records ++ record_text r
