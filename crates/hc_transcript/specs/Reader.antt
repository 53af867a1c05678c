-- A reader of records, and the octets that it was given.
use Rattle.std.specs.Prelude.{◌≡◌, ◌≢◌, ℕ, ◌+◌, ◌⊎◌, Bool, true, false, List, [], ◌∷◌, ◌++◌, length, take, drop, Option, Some, None, Result, Ok, Err, IsSome}
use Rattle.hc_transcript.specs.declared.fault.RecordFault.{RecordFault}
use Rattle.hc_transcript.specs.declared.fault.RecordFault.TheVariants as fault
use Rattle.hc_transcript.specs.declared.format.Format.{Format}
use Rattle.hc_transcript.specs.declared.reader.RecordReader.{RecordReader}
use Rattle.hc_transcript.specs.declared.record.Record.{Record}
use Rattle.hc_transcript.specs.Items.{Item}
use Rattle.hc_transcript.specs.Lending.{lent_len, lent_item}
use Rattle.hc_transcript.specs.History.{next_position}
use Rattle.hc_transcript.specs.Records.{opening, record_text}
use Rattle.hc_transcript.specs.Checks.{line_fault}
use Rattle.hc_transcript.specs.Transcript.{Splits}
use Rattle.hc_transcript.specs.Malformed.{HasNoOpening, IsUnfinishedOpening, IsUnfinished, BreaksAfter}
use Rattle.hc_transcript.specs.Standing.{StandsAs}

-- what the octets are to a reader before an opening was read, and after it
abbrev pub ReadsTo : Option Format → List ℕ → List Record → List Item → List ℕ → Type 0
ReadsTo None octets records h held = (records ≡ []) × ((h ≡ []) × (octets ≡ held))
ReadsTo (Some format) octets records h held = Splits format octets records h held

-- the octets that wait behind those that are lent
abbrev pub waiting : RecordReader → List ℕ
waiting r = drop (lent_len r.lent) r.held

-- the reader was given these octets, and has read of them these records, the newest first, as these items
pub record Agrees (r : RecordReader) (octets : List ℕ) (records : List Record) (h : List Item) : Type 0 where
  pub unfailed : r.fault ≡ None
  pub reads : ReadsTo r.format octets records h (waiting r)
  pub stands : StandsAs r.standing h

-- the format that the opening told; none before it was read
abbrev pub format_read : RecordReader → Option Format
format_read r = r.format

-- the octets begin with the opening of the format, where one was read
abbrev pub BeginsAs : Option Format → List ℕ → Type 0
BeginsAs None octets = Unit {0}
BeginsAs (Some format) octets = (rest : List ℕ) × (octets ≡ opening format ++ rest)

-- what is still unread is less than an opening, or than a record
abbrev pub WaitsBy : Option Format → List Item → List ℕ → Type 0
WaitsBy None h held = IsUnfinishedOpening held
WaitsBy (Some format) h held = IsUnfinished format (line_fault h) held

abbrev pub Waits : RecordReader → List Item → Type 0
Waits r h = WaitsBy r.format h (waiting r)

-- how many octets wait to be read
abbrev pub unread : RecordReader → ℕ
unread r = length (waiting r)

-- how many octets are held, those that are lent among them
abbrev pub octets_held : RecordReader → ℕ
octets_held r = length r.held

-- how many records were read
abbrev pub records_read : RecordReader → ℕ
records_read r = r.standing.records

-- a record is counted where one was read
abbrev pub CountsRecord : Result Bool RecordFault → ℕ → ℕ → Type 0
CountsRecord (Ok true) old new = new ≡ old + 1
CountsRecord (Ok false) old new = new ≡ old
CountsRecord (Err f) old new = new ≡ old

-- octets are left, or no opening is there
abbrev pub HasUnreadBy : Option Format → List ℕ → Type 0
HasUnreadBy None held = (format : Format) → held ≢ opening format
HasUnreadBy (Some format) held = held ≢ []

abbrev pub HasUnread : RecordReader → Type 0
HasUnread r = HasUnreadBy r.format (waiting r)

-- what the reader lends: what the record that was read last means
abbrev pub lent : RecordReader → Option Item
lent r = lent_item r.places r.held r.lent

abbrev pub HasItem : RecordReader → Type 0
HasItem r = IsSome (lent r)

abbrev pub Lends : RecordReader → Item → Type 0
Lends r item = lent r ≡ Some item

-- the octets of the record that the reader lends
abbrev pub text_lent : RecordReader → List ℕ
text_lent r = take (lent_len r.lent) r.held

-- the fault that the reader has met, which it answers for ever
abbrev pub fault_met : RecordReader → Option RecordFault
fault_met r = r.fault

abbrev pub HasFailed : RecordReader → RecordFault → Type 0
HasFailed r f = fault_met r ≡ Some f

abbrev pub HasNoFault : RecordReader → Type 0
HasNoFault r = fault_met r ≡ None

-- the position of what is read next: 0 while no opening is whole, the first record has 1
abbrev pub position_by : Option Format → ℕ → ℕ
position_by None records = 0
position_by (Some format) records = records + 1

abbrev pub reader_position : RecordReader → ℕ
reader_position r = position_by r.format r.standing.records

-- the octets break behind the records of the history, in the format that was read, at that position
pub record MeetsBreak (read : Option Format) (position : ℕ) (octets : List ℕ) (h : List Item) (f : RecordFault) : Type 0 where
  pub format : Format
  pub format_is : read ≡ Some format
  pub breaks : BreaksAfter format octets h f
  pub position_is : position ≡ next_position h

-- the reader has met a fault where the octets break
abbrev pub MeetsFault : RecordReader → List ℕ → List Item → RecordFault → Type 0
MeetsFault r octets h f =
    (HasNoOpening octets × ((f ≡ fault.Opening) × ((format_read r ≡ None) × (reader_position r ≡ 0)))) ⊎ MeetsBreak (format_read r) (reader_position r) octets h f

-- a format that was read stays
abbrev pub KeepsFormat : RecordReader → RecordReader → Type 0
KeepsFormat old new = (format : Format) → format_read old ≡ Some format → format_read new ≡ Some format

-- one record more, which is lent
pub record Advances (r : RecordReader) (octets : List ℕ) (records : List Record) (h : List Item) : Type 0 where
  pub one : Record
  pub item : Item
  pub format : Format
  pub agrees : Agrees r octets (one ∷ records) (item ∷ h)
  pub lends : Lends r item
  pub format_is : format_read r ≡ Some format
  pub text_is : text_lent r ≡ record_text format one

-- the position stays, or is that of the record behind those that were read; it is that where one was read
abbrev pub PositionsNext : Result Bool RecordFault → RecordReader → RecordReader → Type 0
PositionsNext (Ok true) old new = reader_position new ≡ records_read new + 1
PositionsNext (Ok false) old new = (reader_position new ≡ reader_position old) ⊎ (reader_position new ≡ records_read new + 1)
PositionsNext (Err f) old new = (reader_position new ≡ reader_position old) ⊎ (reader_position new ≡ records_read new + 1)

-- what the answer to a call of `advance` says
abbrev pub GivesAdvance : Result Bool RecordFault → RecordReader → List ℕ → List Record → List Item → Type 0
GivesAdvance (Ok true) r octets records h = Advances r octets records h
GivesAdvance (Ok false) r octets records h = Agrees r octets records h × Waits r h
GivesAdvance (Err f) r octets records h = f ≢ fault.Memory → MeetsFault r octets h f
