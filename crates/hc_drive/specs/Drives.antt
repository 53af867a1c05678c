-- Rounds, one after another.
use Rattle.std.specs.Prelude.{◌≡◌, ◌⊎◌, ℕ, ◌+◌, ◌-◌, ◌^◌, ◌≤◌, Bool, true, false, List, [], ◌∷◌, ◌++◌, length, Option, Some, None, Result, Ok, Err}
use Rattle.std.specs.List.{flat_map}
use Rattle.hc_transcript.specs.Limits.{greatest_number}
use Rattle.hc_transcript.specs.Records.{record_text}
use Rattle.hc_service.specs.declared.event.Event.{Event}
use Rattle.hc_service.specs.declared.fault.StepFault.TheVariants.{Failed}
use Rattle.hc_service.specs.declared.settings.CoreSettings.{CoreSettings}
use Rattle.hc_service.specs.Agreement.{Agrees, History}
use Rattle.hc_service.specs.Runs.{Runs, StepResult, records_given}
use Rattle.hc_service.specs.Sending.{recorded_format}
use Rattle.hc_service.specs.Settings.{AreGood}
use Rattle.hc_service.specs.State.{State}
use Rattle.hc_core.specs.Steps.{Cache, StandsFor}
use Rattle.hc_links.specs.Links.{CountsFailure}
use Rattle.hc_connection.specs.Moves.{first_in}
use Rattle.hc_order.specs.declared.occurrence.Occurrence.{Occurrence}
use Rattle.hc_order.specs.Log.{Move}
use Rattle.hc_order.specs.Mirrors.{Mirrors}
use Rattle.hc_order.specs.Passed.{AreOrderly, AreServed, IsUsual, events_of, passed}
use Rattle.hc_order.specs.Resting.{IsAtRest}
use Rattle.hc_drive.specs.declared.fault.DriveFault.{DriveFault}
use Rattle.hc_drive.specs.declared.fault.DriveFault.TheVariants as fault
use Rattle.hc_drive.specs.Rounds.{Break, DriveStage, IsToldBy, StopsAt}
use Rattle.hc_drive.specs.Rounds.Break.{BeforeEvent, AtAnswer, Carrying}

-- ---- what the cache was handed and answered

-- it stands for the state that it was led to; a refused growth leaves none
abbrev pub EndStands : CoreSettings → Option State → Cache → Type 0
EndStands settings None cache = cache.failed ≡ true
EndStands settings (Some s) cache = StandsFor settings cache s

-- from a state that agrees with what has happened, the events lead by these answers to what the cache stands for
pub record LeadsTo (settings : CoreSettings) (s : State) (h : History) (cache : Cache) (events : List Event) (results : List StepResult) : Type 0 where
  pub end : Option State
  pub stands : EndStands settings end cache
  pub runs : Runs settings s h events results (records_given results) end

-- the same from whatever the cache stood for, as far as records can be numbered
abbrev pub Leads : Cache → Cache → List Event → List StepResult → Type 0
Leads old new events results = (settings : CoreSettings) (s : State) (h : History) → AreGood settings → StandsFor settings old s → Agrees s h
    → s.numbers.records + length (records_given results) ≤ greatest_number → LeadsTo settings s h new events results

-- ---- what has passed

-- the texts of the records that answers give out, in order
abbrev pub texts_given : List StepResult → List ℕ
texts_given results = flat_map (record_text recorded_format) (records_given results)

-- ---- whole rounds

-- the cache is led to a state that mirrors the log and agrees with what has happened then, behind so many records more
pub record LedToMirror (room : ℕ) (settings : CoreSettings) (s : State) (new : Cache) (records : ℕ) (log : List Move) : Type 0 where
  pub state : State
  pub stands : StandsFor settings new state
  pub mirrors : Mirrors room state log
  pub later : History
  pub agrees : Agrees state later
  pub counted : state.numbers.records ≡ s.numbers.records + records

-- from whatever state that mirrored the log before, the cache was led to one that mirrors what has passed, as far as records can be numbered
abbrev pub LeadsToMirror : Cache → Cache → List Occurrence → List StepResult → List Move → Type 0
LeadsToMirror old new occurrences results log = (room : ℕ) (settings : CoreSettings) (s : State) (h : History) → AreGood settings → StandsFor settings old s → Agrees s h
    → s.numbers.records + length (records_given results) ≤ greatest_number → Mirrors room s log
    → LedToMirror room settings s new (length (records_given results)) (passed occurrences results log)

-- from there what happened may happen in turn, where so many connections are open at once at most, and was served by these answers, and all that the cache did was
-- carried out; the texts of its records stand behind the text
pub record AreRounds (most : ℕ) (tells : List Move → Type 0) (holds : List ℕ → Type 0) (from : DriveStage) (new : Cache) : Type 0 where
  pub occurrences : List Occurrence
  pub results : List StepResult
  pub orderly : AreOrderly most occurrences results from.log
  pub leads : Leads from.cache new (events_of occurrences) results
  pub mirrors : LeadsToMirror from.cache new occurrences results from.log
  pub served : AreServed results
  pub told : tells (passed occurrences results from.log)
  pub held : holds (from.text ++ texts_given results)

-- ---- rounds of which the last broke off

abbrev pub occurrences_by : Break → List Occurrence
occurrences_by BeforeEvent = []
occurrences_by (AtAnswer occurrence step) = occurrence ∷ []
occurrences_by (Carrying occurrence actions) = occurrence ∷ []

abbrev pub answers_by : Break → List StepResult
answers_by BeforeEvent = []
answers_by (AtAnswer occurrence step) = Err step ∷ []
answers_by (Carrying occurrence actions) = Ok actions ∷ []

-- ---- a cache that isn't idle

-- it stands for no state at rest
abbrev pub IsBusy : Cache → Type 0
IsBusy cache = (settings : CoreSettings) (s : State) → StandsFor settings cache s → IsAtRest s → ⊥

-- ---- why they broke off

-- the most rounds that a driver makes
abbrev pub most_rounds : ℕ
most_rounds = 2 ^ 64 - 1

-- the driver gave up between rounds: it had made as many as it makes, or the links rest, so that nothing more will happen, and the cache isn't idle
abbrev pub GivesUp : Break → DriveFault → Cache → Type 0 → ℕ → Type 0
GivesUp break why cache rests rounds = (break ≡ BeforeEvent) × (why ≡ fault.Core Failed) × ((rounds ≡ most_rounds) ⊎ (IsBusy cache × rests))

-- where the cache didn't serve an event, memory was refused, or the event's moment was too large
abbrev pub BreaksAsUsual : Break → Type 0
BreaksAsUsual BeforeEvent = Unit {0}
BreaksAsUsual (AtAnswer occurrence step) = IsUsual occurrence.event step
BreaksAsUsual (Carrying occurrence actions) = Unit {0}

-- so it is, whatever the cache stood for, where that mirrored the log before and has room for as many connections as the links have open, as far as records can be numbered
abbrev pub IsUsualFrom : ℕ → Cache → List Move → List StepResult → Break → Type 0
IsUsualFrom most old log results break = (room : ℕ) (settings : CoreSettings) (s : State) (h : History) → AreGood settings → StandsFor settings old s → Agrees s h
    → s.numbers.records + length (records_given (results ++ answers_by break)) ≤ greatest_number → most ≤ room → Mirrors room s log → BreaksAsUsual break

-- where the driver gave up, it had made as many rounds as it makes
abbrev pub GivesUpLate : Break → DriveFault → ℕ → Type 0
GivesUpLate break why rounds = break ≡ BeforeEvent → why ≡ fault.Core Failed → rounds ≡ most_rounds

-- so it is, whatever the cache stood for, where that was at rest before and mirrored the log, and nothing had happened by that, as far as records can be numbered
abbrev pub GivesUpLateFrom : Cache → List Move → List StepResult → Break → DriveFault → ℕ → Type 0
GivesUpLateFrom old log results break why rounds = (room : ℕ) (settings : CoreSettings) (s : State) (h : History) → AreGood settings → StandsFor settings old s → Agrees s h
    → s.numbers.records + length (records_given results) ≤ greatest_number → IsAtRest s → Mirrors room s log → first_in log ≡ None → GivesUpLate break why rounds

pub record BreakOff (most : ℕ) (why : DriveFault) (tells : List Move → Type 0) (holds : List ℕ → Type 0) (rests : Type 0) (from : DriveStage) (new : Cache) : Type 0 where
  pub occurrences : List Occurrence
  pub results : List StepResult
  pub break : Break
  pub told_by : IsToldBy break why ⊎ GivesUp break why new rests (length occurrences)
  pub orderly : AreOrderly most (occurrences ++ occurrences_by break) (results ++ answers_by break) from.log
  pub leads : Leads from.cache new (events_of (occurrences ++ occurrences_by break)) (results ++ answers_by break)
  pub usual : IsUsualFrom most from.cache from.log results break
  pub late : GivesUpLateFrom from.cache from.log results break why (length occurrences)
  pub served : AreServed results
  pub stops : StopsAt break tells holds (passed occurrences results from.log) (from.text ++ texts_given results)

abbrev pub GivesDrive : {T : Type 0} → ℕ → (List Move → Type 0) → (List ℕ → Type 0) → Type 0 → Result T DriveFault → DriveStage → Cache → Type 0
GivesDrive most tells holds rests (Ok done) from new = AreRounds most tells holds from new
GivesDrive most tells holds rests (Err fault.Client) from new = AreRounds most tells holds from new
GivesDrive most tells holds rests (Err fault.Recorder) from new = BreakOff most fault.Recorder tells holds rests from new
GivesDrive most tells holds rests (Err (fault.Core step)) from new = BreakOff most (fault.Core step) tells holds rests from new

-- ---- a connection that was served

-- the count of the recorder's failures
abbrev pub CountsServed : {T : Type 0} → Result T DriveFault → ℕ → ℕ → Type 0
CountsServed (Ok done) before after = after ≡ before
CountsServed (Err fault.Client) before after = after ≡ before
CountsServed (Err fault.Recorder) before after = CountsFailure before after
CountsServed (Err (fault.Core step)) before after = after ≡ before

-- it works, and what it stands for is at rest
abbrev pub IsLeftIdle : Cache → Type 0
IsLeftIdle cache = (cache.failed ≡ false) × ((settings : CoreSettings) (s : State) → StandsFor settings cache s → IsAtRest s)

-- the cache is idle where all was served
abbrev pub LeavesIdle : {T : Type 0} → Result T DriveFault → Cache → Type 0
LeavesIdle (Ok done) cache = IsLeftIdle cache
LeavesIdle (Err fault.Client) cache = IsLeftIdle cache
LeavesIdle (Err fault.Recorder) cache = Unit {0}
LeavesIdle (Err (fault.Core step)) cache = Unit {0}

-- nothing more happens where all was served
abbrev pub LeavesResting : {T : Type 0} → Result T DriveFault → Type 0 → Type 0
LeavesResting (Ok done) rests = rests
LeavesResting (Err fault.Client) rests = rests
LeavesResting (Err fault.Recorder) rests = Unit {0}
LeavesResting (Err (fault.Core step)) rests = Unit {0}

-- what the answer says of the client's link
abbrev pub SaysFailed : {T : Type 0} → Result T DriveFault → Bool → Type 0
SaysFailed (Ok done) failed = failed ≡ false
SaysFailed (Err fault.Client) failed = failed ≡ true
SaysFailed (Err fault.Recorder) failed = Unit {0}
SaysFailed (Err (fault.Core step)) failed = Unit {0}

-- where all was served the cache was told that the client opened its connection
abbrev pub LeavesOpened : {T : Type 0} → Result T DriveFault → Bool → Type 0
LeavesOpened (Ok done) opened = opened ≡ true
LeavesOpened (Err fault.Client) opened = opened ≡ true
LeavesOpened (Err fault.Recorder) opened = Unit {0}
LeavesOpened (Err (fault.Core step)) opened = Unit {0}
