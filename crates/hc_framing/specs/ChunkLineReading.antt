-- For the reader's own functions: a reader of a chunk line and the octets that it was given, which it doesn't keep.
use Rattle.std.specs.Prelude.{◌≡◌, ◌≢◌, ℕ, ◌+◌, ◌*◌, ◌≤◌, List, [], ◌∷◌, ◌++◌, length, take, Option, None, Some, Result, Ok, Err, if◌then◌else◌, ◌==◌, nat_lt, option_and_then}
use Rattle.std.specs.Char.{is_ascii_hexdigit, digit_value}
use Rattle.std.specs.Str.Parse.{digits_value}
use Rattle.hc_framing.specs.declared.chunk_line.LineStage.{LineStage}
use Rattle.hc_framing.specs.declared.chunk_line.LineStage.TheVariants.{Start, Digits, Padding, Extension, CarriageReturn, End}
use Rattle.hc_framing.specs.declared.chunk_line.ChunkLineReader.{ChunkLineReader}
use Rattle.hc_framing.specs.declared.chunk_fault.ChunkFault.{ChunkFault}
use Rattle.hc_framing.specs.declared.chunk_fault.ChunkFault.TheVariants.{Syntax}
use Rattle.hc_fields.specs.Lists.{is_blank}
use Rattle.hc_framing.specs.ChunkLines.{ChunkLine, line_end, chunk_line_text, is_extension_octet, IsChunkLine, BeginsChunkLine, NeverHasChunkLine}

-- ---- one octet

-- where an octet behind the digits leads: white space, a semicolon or CR
abbrev pub stage_behind_digits : ℕ → Option LineStage
stage_behind_digits octet =
    if is_blank octet then Some Padding else (if octet == 59 then Some Extension else (if octet == 13 then Some CarriageReturn else None))

-- where one more octet leads, if a line can go on with it
abbrev pub stage_after : LineStage → ℕ → Option LineStage
stage_after Start octet = if is_ascii_hexdigit octet then Some Digits else None
stage_after Digits octet = if is_ascii_hexdigit octet then Some Digits else stage_behind_digits octet
stage_after Padding octet = stage_behind_digits octet
stage_after Extension octet = if is_extension_octet octet then Some Extension else (if octet == 13 then Some CarriageReturn else None)
stage_after CarriageReturn octet = if octet == 10 then Some End else None
stage_after End octet = None

-- how many octets have come there at most
abbrev pub most_octets : LineStage → ℕ
most_octets Start = 0
most_octets Digits = 16
most_octets Padding = 4094
most_octets Extension = 4094
most_octets CarriageReturn = 4095
most_octets End = 4096

-- what is known of the octets so far: where they end, the value of the digits, and how many octets there are
pub record Place : Type 0 where
  pub stage : LineStage
  pub size : ℕ
  pub len : ℕ

-- the value of the digits with an octet that leads there
abbrev pub size_with : LineStage → ℕ → ℕ → ℕ
size_with Digits size octet = size * 16 + digit_value octet
size_with _ size octet = size

-- the place behind one more octet, if a line can go on with it
abbrev pub place_after : Place → ℕ → Option Place
place_after place octet = option_and_then
    (λ stage. if nat_lt place.len (most_octets stage) then Some (record { stage = stage; size = size_with stage place.size octet; len = place.len + 1 }) else None)
    (stage_after place.stage octet)

-- ---- the octets so far

-- where a line with that padding and extension ends, without its CR LF
abbrev pub last_stage : List ℕ → Option (List ℕ) → LineStage
last_stage padding (Some text) = Extension
last_stage [] None = Digits
last_stage (p ∷ padding) None = Padding

-- the octets are that line, without its CR LF, without its LF, or whole
abbrev pub IsFront : LineStage → List ℕ → ChunkLine → Type 0
IsFront CarriageReturn octets line = octets ++ (10 ∷ []) ≡ chunk_line_text line
IsFront End octets line = octets ≡ chunk_line_text line
IsFront stage octets line = (octets ++ line_end ≡ chunk_line_text line) × (last_stage line.padding line.extension ≡ stage)

-- the octets end at the place, and nothing or only the end of the line is missing
pub record EndsAt (place : Place) (octets : List ℕ) : Type 0 where
  pub line : ChunkLine
  pub is : IsChunkLine line
  pub front : IsFront place.stage octets line
  pub size_is : place.size ≡ digits_value 16 line.digits
  pub len_is : place.len ≡ length octets

-- in the stage where they end: nothing has come, or a line without its end
abbrev pub LeadsIn : LineStage → List ℕ → Place → Type 0
LeadsIn Start octets place = (octets ≡ []) × (place.size ≡ 0) × (place.len ≡ 0)
LeadsIn _ octets place = EndsAt place octets

-- the octets lead to the place
abbrev pub Leads : List ℕ → Place → Type 0
Leads octets place = LeadsIn place.stage octets place

-- ---- the reader

-- the place that the reader keeps
abbrev pub place_of : ChunkLineReader → Place
place_of reader = record { stage = reader.stage; size = reader.size; len = reader.len }

-- the reader was given these octets, in whatever pieces, and waits for more
abbrev pub AgreesLine : ChunkLineReader → List ℕ → Type 0
AgreesLine reader octets = (reader.stage ≢ End) × Leads octets (place_of reader)

-- each answer to a piece behind the octets stands only where it says so
abbrev pub GivesLine : Result (Option (ℕ × ℕ)) ChunkFault → ChunkLineReader → List ℕ → List ℕ → Type 0
GivesLine (Ok None) reader octets piece = AgreesLine reader (octets ++ piece)
GivesLine (Ok (Some (size, used))) reader octets piece = (used ≤ length piece) × BeginsChunkLine (octets ++ take used piece) size (length octets + used)
GivesLine (Err fault) reader octets piece = (fault ≡ Syntax) × NeverHasChunkLine (octets ++ piece)
