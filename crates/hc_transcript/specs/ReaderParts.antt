-- Plumbing: what the reader's own functions say.
use Rattle.std.specs.Prelude.{◌≡◌, ℕ, Bool, ◌||◌, List, ◌++◌, length, Option, Some, None, Result, Ok, Err, bytes_eq, ◌==◌}
use Rattle.hc_transcript.specs.declared.fault.RecordFault.{RecordFault}
use Rattle.hc_transcript.specs.declared.fault.RecordFault.TheVariants as fault
use Rattle.hc_transcript.specs.declared.format.Format.{Format}
use Rattle.hc_transcript.specs.declared.format.Format.TheVariants as form
use Rattle.hc_transcript.specs.declared.reader.RecordReader.{RecordReader}
use Rattle.hc_transcript.specs.Records.{opening}
use Rattle.hc_transcript.specs.Malformed.{HasNoOpening, IsUnfinishedOpening}

-- an opening is there, and no octet behind what was read
abbrev pub is_whole_by : Option Format → List ℕ → Bool
is_whole_by None held = bytes_eq held (opening form.First) || bytes_eq held (opening form.Second)
is_whole_by (Some format) held = length held == 0

-- nothing but what is read changes
abbrev pub KeepsRest : RecordReader → RecordReader → Type 0
KeepsRest old new = (new.standing ≡ old.standing) × ((new.fault ≡ old.fault) × (new.lent ≡ None))

-- what was read stays
pub record KeepsRead (old new : RecordReader) : Type 0 where
  pub format : new.format ≡ old.format
  pub standing : new.standing ≡ old.standing
  pub fault : new.fault ≡ old.fault

-- what the answer to a reading of the opening says
abbrev pub GivesOpening : Result (Option Format) RecordFault → RecordReader → RecordReader → Type 0
GivesOpening (Ok (Some format)) old new = (old.held ≡ opening format ++ new.held) × ((new.format ≡ Some format) × KeepsRest old new)
GivesOpening (Ok None) old new = (new ≡ old) × IsUnfinishedOpening old.held
GivesOpening (Err f) old new = (f ≡ fault.Opening) × ((new.format ≡ None) × (KeepsRest old new × HasNoOpening old.held))
