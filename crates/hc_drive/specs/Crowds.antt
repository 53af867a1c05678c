-- Many clients at once, served in batches.
use Rattle.std.specs.Prelude.{◌≡◌, ◌⊎◌, ℕ, ◌+◌, ◌≤◌, List, [], ◌++◌, length, Result, Ok, Err}
use Rattle.hc_transcript.specs.Limits.{greatest_number}
use Rattle.hc_service.specs.declared.fault.StepFault.TheVariants.{Memory, MomentTooLarge, UnknownNumber, TooManyConnections, Failed}
use Rattle.hc_service.specs.declared.settings.CoreOptions.{CoreOptions}
use Rattle.hc_service.specs.declared.settings.CoreSettings.{CoreSettings}
use Rattle.hc_service.specs.Agreement.{Agrees, History}
use Rattle.hc_service.specs.Runs.{StepResult, records_given}
use Rattle.hc_service.specs.Settings.{AreGood}
use Rattle.hc_service.specs.State.{State, new_state_with}
use Rattle.hc_core.specs.Steps.{Cache, StandsFor}
use Rattle.hc_order.specs.declared.occurrence.Occurrence.{Occurrence}
use Rattle.hc_order.specs.Log.{Move}
use Rattle.hc_order.specs.Mirrors.{Mirrors}
use Rattle.hc_order.specs.Passed.{AreOrderly, AreServed, events_of, passed}
use Rattle.hc_order.specs.Resting.{IsAtRest}
use Rattle.hc_drive.specs.declared.fault.DriveFault.{DriveFault}
use Rattle.hc_drive.specs.declared.fault.DriveFault.TheVariants as fault
use Rattle.hc_drive.specs.Clients.{HoldsBeginning, HoldsTranscript}
use Rattle.hc_drive.specs.Drives.{AreRounds, IsUsualFrom, Leads, answers_by, most_rounds, occurrences_by, texts_given}
use Rattle.hc_drive.specs.Rounds.{Break, DriveStage, IsToldBy, StopsAt}
use Rattle.hc_drive.specs.Rounds.Break.{BeforeEvent}

-- ---- what is told

-- what links and a recorder tell: what has passed, by which log clients have seen no more, what was written, and what of that stands for good
pub record Telling : Type 1 where
  pub tells : List Move → Type 0
  pub shows : List Move → Type 0
  pub holds : List ℕ → Type 0
  pub keeps : List ℕ → Type 0

abbrev pub telling : {L R : Type 0} → (tells shows : L → List Move → Type 0) → (has_got has_kept : R → List ℕ → Type 0) → L → R → Telling
telling tells shows has_got has_kept links recorder = record { tells = tells links; shows = shows links; holds = has_got recorder; keeps = has_kept recorder }

-- ---- between batches

-- clients have seen no more, and what stood for good does still
pub record Stays (old new : Telling) : Type 0 where
  pub shown : (log : List Move) → old.shows log → new.shows log
  pub kept : (text : List ℕ) → old.keeps text → new.keeps text

-- all that was written stands for good, and clients may have seen all that has passed
pub record Releases (old new : Telling) : Type 0 where
  pub shown : (log : List Move) → old.tells log → new.shows log
  pub kept : (text : List ℕ) → old.holds text → new.keeps text

-- what clients may see stands for good before, also where something goes wrong
abbrev pub GivesPause : {T : Type 0} → Result T DriveFault → Telling → Telling → Type 0
GivesPause (Ok done) old new = Releases old new
GivesPause (Err why) old new = Releases old new ⊎ Stays old new

-- ---- how it ends

-- it ended between rounds: the recorder failed as it was flushed, or the driver had gone round as often as it goes
abbrev pub EndsBetween : Break → DriveFault → Type 0
EndsBetween break why = (break ≡ BeforeEvent) × ((why ≡ fault.Recorder) ⊎ (why ≡ fault.Core Failed))

-- memory was refused, the recorder failed, or the driver had gone round as often as it goes
abbrev pub IsExpectedOf : DriveFault → Break → Type 0
IsExpectedOf fault.Client break = ⊥
IsExpectedOf fault.Recorder break = Unit {0}
IsExpectedOf (fault.Core Memory) break = Unit {0}
IsExpectedOf (fault.Core MomentTooLarge) break = ⊥
IsExpectedOf (fault.Core UnknownNumber) break = ⊥
IsExpectedOf (fault.Core TooManyConnections) break = ⊥
IsExpectedOf (fault.Core Failed) break = break ≡ BeforeEvent

-- so it is, where the cache was a new one with room for as many connections as the links have open, and nothing had passed, as far as records can be numbered
abbrev pub IsExpectedFrom : ℕ → DriveStage → List StepResult → Break → DriveFault → Type 0
IsExpectedFrom most from results break why = (settings : CoreSettings) (options : CoreOptions) → AreGood settings → StandsFor settings from.cache (new_state_with settings options)
    → most ≤ options.connections → from.log ≡ [] → length (records_given (results ++ answers_by break)) ≤ greatest_number → IsExpectedOf why break

-- what happened may happen in turn, where so many connections are open at once at most, and was served, until a round broke off, or the driver ended between rounds
pub record CutOff (most : ℕ) (why : DriveFault) (new : Telling) (from : DriveStage) (cache : Cache) : Type 0 where
  pub occurrences : List Occurrence
  pub results : List StepResult
  pub break : Break
  pub told_by : IsToldBy break why ⊎ EndsBetween break why
  pub orderly : AreOrderly most (occurrences ++ occurrences_by break) (results ++ answers_by break) from.log
  pub leads : Leads from.cache cache (events_of (occurrences ++ occurrences_by break)) (results ++ answers_by break)
  pub served : AreServed results
  pub stops : StopsAt break new.tells new.holds (passed occurrences results from.log) (from.text ++ texts_given results)
  pub few : length occurrences ≤ most_rounds
  pub usual : IsUsualFrom most from.cache from.log results break
  pub expected : IsExpectedFrom most from results break why

-- ---- what clients have seen

-- it is no more than what had passed by a front of the rounds, of which the records stand for good
pub record IsSafe (new : Telling) (from : DriveStage) (occurrences : List Occurrence) (results : List StepResult) : Type 0 where
  pub front : List Occurrence
  pub behind : List Occurrence
  pub answered : List StepResult
  pub later : List StepResult
  pub occurrences_are : occurrences ≡ front ++ behind
  pub results_are : results ≡ answered ++ later
  pub shown : new.shows (passed front answered from.log)
  pub kept : new.keeps (from.text ++ texts_given answered)

-- from whatever state mirrored the log before, the cache was led to one at rest, as far as records can be numbered
abbrev pub IsLeftAtRest : DriveStage → List StepResult → Cache → Type 0
IsLeftAtRest from results cache = (room : ℕ) (settings : CoreSettings) (s : State) (h : History) → AreGood settings → StandsFor settings from.cache s → Agrees s h
    → s.numbers.records + length (records_given results) ≤ greatest_number → Mirrors room s from.log → (state : State) × StandsFor settings cache state × IsAtRest state

-- all is served: clients may have seen all that has passed, all records stand for good, and nothing is open
pub record Ends (most : ℕ) (new : Telling) (from : DriveStage) (cache : Cache) : Type 0 where
  pub rounds : AreRounds most new.tells new.holds from cache
  pub shown : new.shows (passed rounds.occurrences rounds.results from.log)
  pub kept : new.keeps (from.text ++ texts_given rounds.results)
  pub rests : IsLeftAtRest from rounds.results cache

-- not all is: what clients have seen is safe, if what they had seen before was
pub record Breaks (most : ℕ) (was_safe : Type 0) (why : DriveFault) (new : Telling) (from : DriveStage) (cache : Cache) : Type 0 where
  pub cut : CutOff most why new from cache
  pub safe : was_safe → IsSafe new from cut.occurrences cut.results

abbrev pub GivesCrowd : {T : Type 0} → ℕ → Type 0 → Result T DriveFault → Telling → DriveStage → Cache → Type 0
GivesCrowd most was_safe (Ok done) new from cache = Ends most new from cache
GivesCrowd most was_safe (Err why) new from cache = Breaks most was_safe why new from cache

-- ---- the recording

-- all of a transcript stands for good where all is served, to which the audit that lets nothing pass says yes, as far as records can be numbered; else a beginning of one was written
abbrev pub GivesRecording : {T : Type 0} → Result T DriveFault → (holds keeps : List ℕ → Type 0) → Type 0
GivesRecording (Ok done) holds keeps = HoldsTranscript (λ text. holds text × keeps text)
GivesRecording (Err why) holds keeps = HoldsBeginning holds
