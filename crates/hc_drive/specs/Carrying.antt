-- What a cache does is carried out: octets are sent, and records are written.
use Rattle.std.specs.Prelude.{◌≡◌, ℕ, List, [], ◌∷◌, ◌++◌, ◌⊎◌, Result, Ok, Err}
use Rattle.std.specs.List.{flat_map}
use Rattle.hc_transcript.specs.Records.{record_text}
use Rattle.hc_service.specs.declared.action.Action.{Action}
use Rattle.hc_service.specs.declared.fault.StepFault.TheVariants.{Memory}
use Rattle.hc_service.specs.Sending.{recorded_format, records_of}
use Rattle.hc_links.specs.Links.{CountsFailure, IsBeginning}
use Rattle.hc_order.specs.Log.{Move, carried}
use Rattle.hc_drive.specs.declared.fault.DriveFault.{DriveFault}
use Rattle.hc_drive.specs.declared.fault.DriveFault.TheVariants as fault

-- ---- the recorder

-- the text was written, or a beginning of it
abbrev pub WritesRecord : {T : Type 0} → (List ℕ → Type 0) → (List ℕ → Type 0) → Result T DriveFault → List ℕ → Type 0
WritesRecord before after (Ok done) text = (got : List ℕ) → before got → after (got ++ text)
WritesRecord before after (Err fault) text = (got : List ℕ) → before got → (front : List ℕ) × IsBeginning front text × after (got ++ front)

-- a failure of the recorder is told and counted, and nothing else is counted; one of the client isn't told
abbrev pub CountsRecorder : {T : Type 0} → Result T DriveFault → ℕ → ℕ → Type 0
CountsRecorder (Ok done) before after = after ≡ before
CountsRecorder (Err fault.Client) before after = ⊥
CountsRecorder (Err fault.Recorder) before after = CountsFailure before after
CountsRecorder (Err (fault.Core step)) before after = after ≡ before

-- what goes wrong there: the recorder fails, or memory is refused
abbrev pub IsOfCarrying : DriveFault → Type 0
IsOfCarrying why = (why ≡ fault.Recorder) ⊎ (why ≡ fault.Core Memory)

-- ---- actions

-- the texts of the records among actions
abbrev pub texts_in : List Action → List ℕ
texts_in actions = flat_map (record_text recorded_format) (records_of actions)

-- all were carried out, and the texts of their records stand behind the text
abbrev pub AreDone : (List Move → Type 0) → (List ℕ → Type 0) → List Action → List Move → List ℕ → Type 0
AreDone tells holds actions log text = tells (carried actions log) × holds (text ++ texts_in actions)

-- those before one were; that one sent nothing; of its record, if it is one, a beginning stands behind the texts of the others, and behind it nothing was done
pub record AreCut (tells : List Move → Type 0) (holds : List ℕ → Type 0) (actions : List Action) (log : List Move) (text : List ℕ) : Type 0 where
  pub done : List Action
  pub last : Action
  pub left : List Action
  pub actions_are : actions ≡ done ++ last ∷ left
  pub told : tells (carried done log)
  pub front : List ℕ
  pub begins : IsBeginning front (texts_in (last ∷ []))
  pub held : holds (text ++ (texts_in done ++ front))

abbrev pub GivesDone : {T : Type 0} → (List Move → Type 0) → (List ℕ → Type 0) → Result T DriveFault → List Action → List Move → List ℕ → Type 0
GivesDone tells holds (Ok done) actions log text = AreDone tells holds actions log text
GivesDone tells holds (Err fault) actions log text = AreCut tells holds actions log text
