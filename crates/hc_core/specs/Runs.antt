-- What comes of events that are handed to a new cache.
use Rattle.std.specs.Prelude.{◌≡◌, ℕ, ◌≤◌, List, length, Option}
use Rattle.hc_transcript.specs.Limits.{greatest_number}
use Rattle.hc_history.specs.declared.verdicts.Counts.{Counts}
use Rattle.hc_history.specs.declared.verdicts.Verdict.TheVariants.{Yes}
use Rattle.hc_history.specs.Verdicts.{IsVerdict}
use Rattle.hc_service.specs.declared.event.Event.{Event}
use Rattle.hc_service.specs.declared.settings.CoreSettings.{CoreSettings}
use Rattle.hc_service.specs.Runs.{Runs, StepResult, nothing_yet, records_given, strict, transcript_of}
use Rattle.hc_service.specs.Settings.{AreGood}
use Rattle.hc_service.specs.State.{State, new_state}

-- the events lead a new cache to that state by these answers, and the strictest audit of the octets says yes
pub record IsRight (settings : CoreSettings) (events : List Event) (results : List StepResult) (octets : List ℕ) : Type 0 where
  pub end : Option State
  pub runs : Runs settings (new_state settings) nothing_yet events results (records_given results) end
  pub counts : Counts
  pub verdict : IsVerdict octets strict (Yes counts)

-- the octets are the transcript of the records that the answers give out; and as far as records can be numbered all is right
pub record IsRunOf (settings : CoreSettings) (events : List Event) (results : List StepResult) (octets : List ℕ) : Type 0 where
  pub good : AreGood settings
  pub octets_are : octets ≡ transcript_of (records_given results)
  pub is_right : length (records_given results) ≤ greatest_number → IsRight settings events results octets
