-- What clients of a proxy were served by, and how that ended.
use Rattle.std.specs.Prelude.{◌⊎◌, ◌≤◌, ℕ, Bool, List, [], ◌++◌, length, Option, Some, None, Result, Ok, Err}
use Rattle.hc_transcript.specs.Limits.{greatest_number}
use Rattle.hc_transcript.specs.Records.{opening}
use Rattle.hc_service.specs.declared.settings.CoreOptions.{CoreOptions}
use Rattle.hc_service.specs.declared.settings.CoreSettings.{CoreSettings}
use Rattle.hc_service.specs.Runs.{records_given}
use Rattle.hc_service.specs.Sending.{recorded_format}
use Rattle.hc_service.specs.State.{new_state_with}
use Rattle.hc_core.specs.Steps.{Cache, StandsFor}
use Rattle.hc_crowd.specs.declared.limits.Limits.{Limits}
use Rattle.hc_drive.specs.declared.fault.DriveFault.{DriveFault}
use Rattle.hc_drive.specs.Crowds.{GivesCrowd, IsExpectedOf, Telling}
use Rattle.hc_drive.specs.Rounds.{DriveStage, stage}
use Rattle.hc_drive.specs.Drives.{answers_by}
use Rattle.hc_serving.specs.declared.fault.ServeFault.{ServeFault}
use Rattle.hc_serving.specs.declared.fault.ServeFault.TheVariants as serve
use Rattle.hc_serving.specs.Outcomes.{EndsFor, IsBrokenDown, IsTooLow}

-- ---- what is made before anybody is served

-- how the cache of a proxy is made, with room for as many connections as may be open
abbrev pub options_within : Limits → (keeps_cookies : Bool) → CoreOptions
options_within limits keeps_cookies = record { connections = limits.connections; keeps_cookies = keeps_cookies }

-- what a recorder tells of these octets, if there is one; where nothing is recorded, any octets may stand
abbrev pub OfRecorder : {R : Type 0} → (R → List ℕ → Type 0) → Option R → List ℕ → Type 0
OfRecorder tells None = λ _. Unit {0}
OfRecorder tells (Some recorder) = tells recorder

-- something that serving begins with couldn't be made: that says nothing of how many files may be open, and no clock was asked, and no poll
abbrev pub IsOfMaking : ServeFault → Type 0
IsOfMaking (serve.OpenFiles limit wanted) = ⊥
IsOfMaking (serve.Poll reason) = ⊥
IsOfMaking (serve.Monotonic reason) = ⊥
IsOfMaking serve.Clock = ⊥
IsOfMaking other = Unit {0}

-- so it is, or too few files may be open
abbrev pub IsOfBeginning : Limits → ServeFault → Type 0
IsOfBeginning limits fault = IsTooLow limits fault ⊎ IsOfMaking fault

-- ---- how serving ended

-- it is told as it ended: well, unless the system lets nobody be served any more, or by the fault that ended it
abbrev pub TellsEnd : {T U : Type 0} → Result T DriveFault → Result U ServeFault → Type 0
TellsEnd (Ok done) (Ok told) = Unit {0}
TellsEnd (Ok done) (Err fault) = IsBrokenDown fault
TellsEnd (Err why) (Ok told) = ⊥
TellsEnd (Err why) (Err fault) = EndsFor why fault

-- where a fault ended it, memory was refused, the recorder failed, or the driver had gone round as often as it goes, as far as records can be numbered
abbrev pub IsExpectedEnd : (T : Type 0) (most : ℕ) (was_safe : Type 0) (new : Telling) (from : DriveStage) (cache : Cache) (result : Result T DriveFault)
    → GivesCrowd most was_safe result new from cache → Type 0
IsExpectedEnd T most was_safe new from cache (Ok done) ends = Unit {0}
IsExpectedEnd T most was_safe new from cache (Err why) breaks =
    length (records_given (breaks.cut.results ++ answers_by breaks.cut.break)) ≤ greatest_number → IsExpectedOf why breaks.cut.break

-- a new cache of those settings served what came, with so many connections open at once at most, behind the opening of a transcript, to that end
pub record HasServed {T : Type 0} (settings : CoreSettings) (options : CoreOptions) (most : ℕ) (result : Result T DriveFault) (new : Telling) (cache : Cache) : Type 0 where
  pub first : Cache
  pub is_new : StandsFor settings first (new_state_with settings options)
  pub serves : GivesCrowd most (Unit {0}) result new (stage first [] (opening recorded_format)) cache
  pub expected : IsExpectedEnd T most (Unit {0}) new (stage first [] (opening recorded_format)) cache result serves
