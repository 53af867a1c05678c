-- What a step makes of what has happened.
use Rattle.std.proofs.Common.{◌≤◌, List, Ok, Err}
use Rattle.hc_transcript.specs.Limits.{greatest_number}
use Rattle.hc_service.specs.declared.event.Event.{Event}
use Rattle.hc_service.specs.declared.action.Action.{Action}
use Rattle.hc_service.specs.declared.settings.CoreSettings.{CoreSettings}
use Rattle.hc_service.specs.Agreement.{History}
use Rattle.hc_service.specs.Laws.{KeepsAgreement}
use Rattle.hc_service.specs.Runs.{StepResult}
use Rattle.hc_service.specs.Serves.{Serves}
use Rattle.hc_service.specs.State.{State}
use Rattle.hc_core.specs.Steps.{Cache, GivesAgreement, GivesStep}

-- a step that serves its event keeps agreement, where served events do
pub keeps_agreement : (settings : CoreSettings) (event : Event) (s : State) (h : History) (result : StepResult) (cache : Cache)
    → ((actions : List Action) (other : State) → Serves settings event s actions other → other.numbers.records ≤ greatest_number → KeepsAgreement event.of actions h other)
    → GivesStep result settings event s cache → GivesAgreement result settings event s h cache
keeps_agreement settings event s h (Ok actions) cache keeps gives = (gives.0, gives.1, gives.2, keeps actions.items gives.0 gives.2)
keeps_agreement settings event s h (Err fault) cache keeps gives = gives
