-- The records of a transcript in the first format, which tells no causes.
use Rattle.std.specs.Prelude.{◌≡◌, ℕ, ◌⊎◌, List, ◌∷◌, ◌++◌, map, None}
use Rattle.hc_transcript.specs.declared.converting.ConvertFault.{ConvertFault}
use Rattle.hc_transcript.specs.declared.converting.ConvertFault.TheVariants.{Malformed, Memory}
use Rattle.hc_transcript.specs.declared.fault.RecordFault.{RecordFault}
use Rattle.hc_transcript.specs.declared.fault.RecordFault.TheVariants as fault
use Rattle.hc_transcript.specs.declared.format.Format.{Format}
use Rattle.hc_transcript.specs.declared.format.Format.TheVariants as form
use Rattle.hc_transcript.specs.declared.line.Line.{Line}
use Rattle.hc_transcript.specs.declared.line.ToldCause.TheVariants.{Untold}
use Rattle.hc_transcript.specs.declared.open_numbers.Standing.{Standing}
use Rattle.hc_transcript.specs.declared.record.Passed.{Passed}
use Rattle.hc_transcript.specs.declared.record.Passed.TheVariants.{OriginRequest}
use Rattle.hc_transcript.specs.declared.record.Record.{Record}
use Rattle.hc_transcript.specs.Records.{opening, line_of, message_of, records_text}
use Rattle.hc_transcript.specs.Items.{Item}
use Rattle.hc_transcript.specs.Items as items
use Rattle.hc_transcript.specs.History.{next_position}
use Rattle.hc_transcript.specs.Transcript.{Splits, IsTranscript}
use Rattle.hc_transcript.specs.Malformed.{BreaksOpening, IsMalformedAfter}
use Rattle.hc_transcript.specs.Standing.{StandsAs}

-- what passed, without a cause
abbrev pub passed_without_cause : Passed → Passed
passed_without_cause (OriginRequest message cause) = OriginRequest message None
passed_without_cause of = of

-- a record without a cause
abbrev pub without_cause : Record → Record
without_cause r = record { number = r.number; moment = r.moment; of = passed_without_cause r.of }

-- what it means
abbrev pub item_without_cause : Item → Item
item_without_cause (items.ClientRequest number moment request target) = items.ClientRequest number moment request target
item_without_cause (items.OriginRequest number moment request target cause) = items.OriginRequest number moment request target None
item_without_cause (items.OriginResponse number moment response) = items.OriginResponse number moment response
item_without_cause (items.OriginFailure number moment) = items.OriginFailure number moment
item_without_cause (items.ClientReply number moment reply) = items.ClientReply number moment reply

-- the transcript of the same records in the first format
abbrev pub converted : List Record → List ℕ
converted records = opening form.First ++ records_text form.First (map without_cause records)

-- the octets are a transcript, and the text is that of its records in the first format
pub record IsConverted (octets text : List ℕ) : Type 0 where
  pub format : Format
  pub records : List Record
  pub history : List Item
  pub is_transcript : IsTranscript format octets records history
  pub text_is : text ≡ converted records

-- the octets are malformed at that position, by that fault
abbrev pub IsMalformed : List ℕ → ℕ → RecordFault → Type 0
IsMalformed octets position f =
    ((position ≡ 0) × BreaksOpening octets f) ⊎ ((format : Format) × (h : List Item) × (position ≡ next_position h) × IsMalformedAfter format octets h f)

-- why octets couldn't be converted: where they are malformed, or that memory was refused
abbrev pub FailsBy : List ℕ → ConvertFault → Type 0
FailsBy octets (Malformed position f) = IsMalformed octets position f
FailsBy octets Memory = Unit {0}

-- ---- Plumbing: what the functions that convert answer

-- the line without a cause
abbrev pub line_without_cause : Line → Line
line_without_cause l = record { kind = l.kind; number = l.number; moment = l.moment; size = l.size; cause = Untold }

-- a fault of a record at a position
abbrev pub malformed_at : ℕ → RecordFault → ConvertFault
malformed_at position fault.Memory = Memory
malformed_at position f = Malformed position f

-- the next record was read
pub record ReadsOne (format : Format) (octets : List ℕ) (records : List Record) (h : List Item) (rest : List ℕ) (line : Line) (message : List ℕ) (new : Standing) : Type 0 where
  pub one : Record
  pub item : Item
  pub splits : Splits format octets (one ∷ records) (item ∷ h) rest
  pub stands : StandsAs new (item ∷ h)
  pub line_is : line_of format one ≡ line
  pub message_is : message_of one ≡ message
