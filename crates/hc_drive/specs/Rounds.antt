-- Rounds: something happens, the cache is handed it, and what the cache does is carried out.
use Rattle.std.specs.Prelude.{◌≡◌, ◌≢◌, ℕ, true, false, Bool, List, ◌∷◌, Option, Some, Result, Ok, Err}
use Rattle.std.specs.Global.{Global}
use Rattle.std.specs.declared.alloc.AllocError.{AllocError}
use Rattle.std.specs.declared.vec.Vec.{Vec}
use Rattle.hc_service.specs.declared.event.Event.{Event}
use Rattle.hc_service.specs.declared.action.Action.{Action}
use Rattle.hc_service.specs.declared.fault.StepFault.{StepFault}
use Rattle.hc_service.specs.declared.fault.StepFault.TheVariants.{Memory}
use Rattle.hc_service.specs.declared.settings.CoreSettings.{CoreSettings}
use Rattle.hc_service.specs.Agreement.{IsReady}
use Rattle.hc_service.specs.Runs.{StepResult}
use Rattle.hc_service.specs.Serves.{clients_of}
use Rattle.hc_service.specs.State.{State, awaits_reply}
use Rattle.hc_core.specs.Held.{held_of_client, held_of_forward, is_background, is_needed}
use Rattle.hc_core.specs.Steps.{Cache, GivesStep, StandsFor}
use Rattle.hc_order.specs.declared.occurrence.Occurrence.{Occurrence}
use Rattle.hc_order.specs.declared.receiver.Receiver.{Receiver}
use Rattle.hc_order.specs.declared.receiver.Receiver.TheVariants.{Client, Origin}
use Rattle.hc_order.specs.Log.{Move}
use Rattle.hc_order.specs.Mirrors.{MayHappen}
use Rattle.hc_order.specs.Log.Move.{Heard}
use Rattle.hc_drive.specs.declared.fault.DriveFault.{DriveFault}
use Rattle.hc_drive.specs.declared.fault.DriveFault.TheVariants.{Core}
use Rattle.hc_drive.specs.Carrying.{AreCut, AreDone, IsOfCarrying}

-- ---- where a driver stands

-- what its cache is, what has passed at the links, and what was written of that
pub record DriveStage : Type 0 where
  pub cache : Cache
  pub log : List Move
  pub text : List ℕ

abbrev pub stage : Cache → List Move → List ℕ → DriveStage
stage cache log text = record { cache = cache; log = log; text = text }

-- ---- what its cache is asked

-- whatever state the cache stands for, that is whether a request of that connection awaits its reply there
abbrev pub awaited_by : Cache → ℕ → Bool → Type 0
awaited_by cache c awaits = (settings : CoreSettings) (s : State) → StandsFor settings cache s → awaits ≡ awaits_reply c s

-- and that is whether that forward is open for the store alone
abbrev pub background_by : Cache → ℕ → Bool → Type 0
background_by cache f background = (settings : CoreSettings) (s : State) → StandsFor settings cache s → background ≡ is_background f s

-- and that is whether it is open and goes on even where nobody awaits what comes on it
abbrev pub needed_by : Cache → ℕ → Bool → Type 0
needed_by cache f needed = (settings : CoreSettings) (s : State) → StandsFor settings cache s → needed ≡ is_needed f s

-- and those are the connections that its end answers
abbrev pub clients_by : Cache → ℕ → List ℕ → Type 0
clients_by cache f clients = (settings : CoreSettings) (s : State) → StandsFor settings cache s → clients ≡ clients_of f s

-- how many octets a state holds of what came on that link and isn't whole
abbrev pub held_of : Receiver → State → ℕ
held_of (Client c) s = held_of_client c s
held_of (Origin f) s = held_of_forward f s

-- and so many octets it holds of that
abbrev pub held_by : Cache → Receiver → ℕ → Type 0
held_by cache link count = (settings : CoreSettings) (s : State) → StandsFor settings cache s → count ≡ held_of link s

-- ---- a round

-- the cache was handed the event, and answered so
pub record Answers (event : Event) (answer : StepResult) (old new : Cache) : Type 0 where
  pub gives : (settings : CoreSettings) (s : State) → StandsFor settings old s → IsReady s → GivesStep answer settings event s new
  pub same : (step : StepFault) → answer ≡ Err step → step ≢ Memory → new ≡ old

-- a whole round from there, of links at which so many connections are open at once at most
pub record IsRound (most : ℕ) (tells : List Move → Type 0) (holds : List ℕ → Type 0) (from : DriveStage) (new : Cache) : Type 0 where
  pub occurrence : Occurrence
  pub actions : Vec Action Global
  pub may : MayHappen most occurrence.event.of from.log
  pub answers : Answers occurrence.event (Ok actions) from.cache new
  pub done : AreDone tells holds actions.items (Heard occurrence ∷ from.log) from.text

-- where it broke off: before something happened, at the cache's answer, or while that was carried out
pub data Break : Type 0 where
  BeforeEvent : Break
  AtAnswer : (occurrence : Occurrence) (step : StepFault) → Break
  Carrying : (occurrence : Occurrence) (actions : Vec Action Global) → Break

-- what the cache was handed and answered by then
abbrev pub AnswersBy : Break → Cache → Cache → Type 0
AnswersBy BeforeEvent old new = new ≡ old
AnswersBy (AtAnswer occurrence step) old new = Answers occurrence.event (Err step) old new
AnswersBy (Carrying occurrence actions) old new = Answers occurrence.event (Ok actions) old new

-- what has passed and was written by then
abbrev pub StopsAt : Break → (List Move → Type 0) → (List ℕ → Type 0) → List Move → List ℕ → Type 0
StopsAt BeforeEvent tells holds log text = tells log × holds text
StopsAt (AtAnswer occurrence step) tells holds log text = tells (Heard occurrence ∷ log) × holds text
StopsAt (Carrying occurrence actions) tells holds log text = AreCut tells holds actions.items (Heard occurrence ∷ log) text

-- what was handed to the cache by then may happen by the log
abbrev pub MayBreak : ℕ → Break → List Move → Type 0
MayBreak most BeforeEvent log = Unit {0}
MayBreak most (AtAnswer occurrence step) log = MayHappen most occurrence.event.of log
MayBreak most (Carrying occurrence actions) log = MayHappen most occurrence.event.of log

-- the fault that tells it: memory was refused to the driver, or what the cache answered, or what went wrong at its actions
abbrev pub IsToldBy : Break → DriveFault → Type 0
IsToldBy BeforeEvent fault = fault ≡ Core Memory
IsToldBy (AtAnswer occurrence step) fault = fault ≡ Core step
IsToldBy (Carrying occurrence actions) fault = IsOfCarrying fault

-- for what was handed to the cache by then, what the cache awaited before was heeded
abbrev pub IsHeeded : (Result (Option Occurrence) AllocError → Type 0) → Break → Type 0
IsHeeded heeds BeforeEvent = Unit {0}
IsHeeded heeds (AtAnswer occurrence step) = heeds (Ok (Some occurrence))
IsHeeded heeds (Carrying occurrence actions) = heeds (Ok (Some occurrence))

abbrev pub GivesRound : ℕ → (Result (Option Occurrence) AllocError → Type 0) → (List Move → Type 0) → (List ℕ → Type 0) → Result Bool DriveFault → DriveStage → Cache → Type 0
GivesRound most heeds tells holds (Ok true) from new = (round : IsRound most tells holds from new) × heeds (Ok (Some round.occurrence))
GivesRound most heeds tells holds (Ok false) from new = (new ≡ from.cache) × tells from.log × holds from.text
GivesRound most heeds tells holds (Err fault) from new =
    (break : Break) × IsToldBy break fault × AnswersBy break from.cache new × StopsAt break tells holds from.log from.text × MayBreak most break from.log × IsHeeded heeds break
