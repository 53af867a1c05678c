-- Plumbing: what the steps of a run have come to so far.
use Rattle.std.specs.Prelude.{◌≡◌, ◌≢◌, Bool, not, [], ◌∷◌, ◌++◌, Err}
use Rattle.hc_service.specs.declared.event.Event.{Event}
use Rattle.hc_service.specs.declared.fault.StepFault.{StepFault}
use Rattle.hc_service.specs.declared.fault.StepFault.TheVariants.{Memory}
use Rattle.hc_service.specs.declared.settings.CoreSettings.{CoreSettings}
use Rattle.hc_service.specs.Agreement.{IsReady}
use Rattle.hc_service.specs.Runs.{StepResult}
use Rattle.hc_service.specs.State.{State}
use Rattle.hc_core.specs.Steps.{Cache, GivesStep, StandsFor}
use Rattle.hc_core.specs.declared.recording.Recording.{Recording}
use Rattle.hc_core.specs.Results.{is_refusal, records_in, texts_of}

-- the event was handed to the cache, and its answer stands behind those before, as the texts of its records do
pub record TakesStep (event : Event) (old new : Cache) (before after : Recording) (goes_on : Bool) : Type 0 where
  pub answer : StepResult
  pub results_are : after.results.items ≡ before.results.items ++ answer ∷ []
  pub text_is : after.text.items ≡ before.text.items ++ texts_of (records_in answer)
  pub goes_on_is : goes_on ≡ not (is_refusal answer)
  pub gives : (settings : CoreSettings) (s : State) → StandsFor settings old s → IsReady s → GivesStep answer settings event s new
  pub same : (fault : StepFault) → answer ≡ Err fault → fault ≢ Memory → new ≡ old
