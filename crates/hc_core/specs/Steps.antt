-- A cache, as contracts see it, and what a step gives.
use Rattle.std.specs.Prelude.{◌≡◌, ◌≤◌, ◌⊎◌, ℕ, Bool, true, false, Some, None, Ok, Err}
use Rattle.hc_transcript.specs.Limits.{greatest_number}
use Rattle.hc_service.specs.declared.event.Event.{Event}
use Rattle.hc_service.specs.declared.fault.StepFault.{StepFault}
use Rattle.hc_service.specs.declared.fault.StepFault.TheVariants.{Memory, MomentTooLarge, UnknownNumber, TooManyConnections, Failed}
use Rattle.hc_service.specs.declared.settings.CoreSettings.{CoreSettings}
use Rattle.hc_service.specs.Agreement.{History}
use Rattle.hc_service.specs.Laws.{KeepsAgreement}
use Rattle.hc_service.specs.Runs.{StepResult}
use Rattle.hc_service.specs.Serves.{Serves, first_fault}
use Rattle.hc_service.specs.State.{State}
use Rattle.hc_core.specs.declared.desk.Desk.{Desk}
use Rattle.hc_core.specs.Standing.{CanServe, IsKept, Kept, kept_of}

-- a cache: whether it has failed, and what it keeps
pub record Cache : Type 0 where
  pub failed : Bool
  pub kept : Kept

abbrev pub cache_of : {S H : Type 0} → Bool → Desk S H → Cache
cache_of failed desk = record { failed = failed; kept = kept_of desk }

-- what it keeps is that of some state, unless it has failed
abbrev pub CanStep : {S H : Type 0} → Bool → Desk S H → Type 0
CanStep failed desk = (failed ≡ true) ⊎ CanServe desk

-- how many records it has given out
abbrev pub records_given : Cache → ℕ
records_given cache = cache.kept.numbers.records

-- it hasn't failed, and what it keeps is that of the state
pub record StandsFor (settings : CoreSettings) (cache : Cache) (s : State) : Type 0 where
  pub works : cache.failed ≡ false
  pub stands : IsKept settings cache.kept s

-- a fault that a test of the event tells
abbrev pub IsOfTest : StepFault → Type 0
IsOfTest MomentTooLarge = Unit {0}
IsOfTest UnknownNumber = Unit {0}
IsOfTest TooManyConnections = Unit {0}
IsOfTest Memory = ⊥
IsOfTest Failed = ⊥

-- what is told is the first test that the event fails
abbrev pub IsRefused : StepFault → Event → State → Type 0
IsRefused fault event s = first_fault event s ≡ Some fault

-- which test of the event fails first, whatever it makes of the state: a fault of a test stands only where that is the first, an event that is served, or for which
-- memory was refused, fails none, and none is told to have met a cache that has failed
abbrev pub TellsFirst : StepResult → Event → State → Type 0
TellsFirst (Ok actions) event s = first_fault event s ≡ None
TellsFirst (Err Memory) event s = first_fault event s ≡ None
TellsFirst (Err MomentTooLarge) event s = IsRefused MomentTooLarge event s
TellsFirst (Err UnknownNumber) event s = IsRefused UnknownNumber event s
TellsFirst (Err TooManyConnections) event s = IsRefused TooManyConnections event s
TellsFirst (Err Failed) event s = ⊥

-- each answer stands only where this says so
abbrev pub GivesStep : StepResult → CoreSettings → Event → State → Cache → Type 0
GivesStep (Ok actions) settings event s cache = (s' : State) × StandsFor settings cache s' × Serves settings event s actions.items s'
GivesStep (Err Memory) settings event s cache = (first_fault event s ≡ None) × (cache.failed ≡ true)
GivesStep (Err MomentTooLarge) settings event s cache = IsRefused MomentTooLarge event s
GivesStep (Err UnknownNumber) settings event s cache = IsRefused UnknownNumber event s
GivesStep (Err TooManyConnections) settings event s cache = IsRefused TooManyConnections event s
GivesStep (Err Failed) settings event s cache = ⊥

-- the same of a cache that agrees with what has happened: it agrees with what has happened then, as far as records can be numbered
abbrev pub GivesAgreement : StepResult → CoreSettings → Event → State → History → Cache → Type 0
GivesAgreement (Ok actions) settings event s h cache =
    (s' : State) × StandsFor settings cache s' × Serves settings event s actions.items s'
    × (s'.numbers.records ≤ greatest_number → KeepsAgreement event.of actions.items h s')
GivesAgreement (Err fault) settings event s h cache = GivesStep (Err fault) settings event s cache
