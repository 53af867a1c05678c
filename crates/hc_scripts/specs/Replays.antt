-- What a script is replayed to.
use Rattle.std.specs.Prelude.{◌≡◌, ℕ, ◌≤◌, ◌⊎◌, List, length, Some, codes}
use Rattle.hc_transcript.specs.Limits.{greatest_number}
use Rattle.hc_history.specs.declared.verdicts.Counts.{Counts}
use Rattle.hc_history.specs.declared.verdicts.Verdict.{Verdict}
use Rattle.hc_history.specs.declared.verdicts.Verdict.TheVariants.{Yes}
use Rattle.hc_history.specs.Verdicts.{IsVerdict}
use Rattle.hc_service.specs.declared.event.Event.{Event}
use Rattle.hc_service.specs.declared.settings.CoreSettings.{CoreSettings}
use Rattle.hc_service.specs.Runs.{Runs, StepResult, nothing_yet, records_given, strict, transcript_of}
use Rattle.hc_service.specs.Settings.{AreGood}
use Rattle.hc_service.specs.State.{State, new_state}
use Rattle.hc_scripts.specs.declared.fault.ScriptFault.{ScriptFault}
use Rattle.hc_scripts.specs.declared.fault.ScriptFault.TheVariants as fault
use Rattle.hc_scripts.specs.Scripts.{IsScript}
use Rattle.hc_scripts.specs.ScriptFaults.{ScriptBreaks}

-- the settings of the cache that plays a script
abbrev pub settings_of : ℕ → ℕ → CoreSettings
settings_of keys bytes = record { name = codes "hcache"; keys = keys; bytes = bytes }

-- all of the events lead a new cache to a state by these answers, and the verdict is that all replies are right
pub record PlaysAll (settings : CoreSettings) (events : List Event) (results : List StepResult) (verdict : Verdict) : Type 0 where
  pub state : State
  pub runs : Runs settings (new_state settings) nothing_yet events results (records_given results) (Some state)
  pub counts : Counts
  pub verdict_is : verdict ≡ Yes counts

-- the octets are a script, which is played by a cache of its settings: the transcript is that of the records that the cache gives out, and the verdict that of the strictest audit; as far as records can be numbered it is a yes
pub record Replays (octets transcript : List ℕ) (verdict : Verdict) : Type 0 where
  pub keys : ℕ
  pub bytes : ℕ
  pub events : List Event
  pub is_script : IsScript octets keys bytes events
  pub good : AreGood (settings_of keys bytes)
  pub results : List StepResult
  pub transcript_is : transcript ≡ transcript_of (records_given results)
  pub is_verdict : IsVerdict transcript strict verdict
  pub plays : length (records_given results) ≤ greatest_number → PlaysAll (settings_of keys bytes) events results verdict

-- the octets are a script whose settings no cache can have
pub record HasBadSettings (octets : List ℕ) : Type 0 where
  pub keys : ℕ
  pub bytes : ℕ
  pub events : List Event
  pub is_script : IsScript octets keys bytes events
  pub bad : ¬ (AreGood (settings_of keys bytes))

-- the fault stops the replay of the octets: it breaks them, or no cache can have their settings
abbrev pub StopsReplay : List ℕ → ScriptFault → Type 0
StopsReplay octets f = ScriptBreaks octets f ⊎ ((f ≡ fault.Settings) × HasBadSettings octets)
