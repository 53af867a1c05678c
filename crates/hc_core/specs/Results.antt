-- What the steps of a run answer.
use Rattle.std.specs.Prelude.{ℕ, Bool, true, false, List, [], ◌∷◌, Ok, Err}
use Rattle.std.specs.List.{flat_map}
use Rattle.hc_transcript.specs.declared.record.Record.{Record}
use Rattle.hc_transcript.specs.Records.{record_text}
use Rattle.hc_service.specs.declared.fault.StepFault.{StepFault}
use Rattle.hc_service.specs.declared.fault.StepFault.TheVariants.{Memory, MomentTooLarge, UnknownNumber, TooManyConnections, Failed}
use Rattle.hc_service.specs.Runs.{StepResult}
use Rattle.hc_service.specs.Sending.{recorded_format, records_of}

-- the texts of records, the oldest first
abbrev pub texts_of : List Record → List ℕ
texts_of records = flat_map (record_text recorded_format) records

-- the records that an answer gives out, in order
abbrev pub records_in : StepResult → List Record
records_in (Ok actions) = records_of actions.items
records_in (Err fault) = []

-- whether the fault is want of memory
abbrev pub is_memory : StepFault → Bool
is_memory Memory = true
is_memory MomentTooLarge = false
is_memory UnknownNumber = false
is_memory TooManyConnections = false
is_memory Failed = false

abbrev pub is_refusal : StepResult → Bool
is_refusal (Ok actions) = false
is_refusal (Err fault) = is_memory fault

-- whether the last of the answers is want of memory
abbrev pub is_cut_off : List StepResult → Bool
is_cut_off [] = false
is_cut_off (last ∷ []) = is_refusal last
is_cut_off (first ∷ second ∷ results) = is_cut_off (second ∷ results)
