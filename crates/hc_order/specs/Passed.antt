-- What has passed, where a cache was handed what happened and answered so.
use Rattle.std.specs.Prelude.{◌≡◌, ℕ, true, nat_lt, List, [], ◌∷◌, Ok, Err}
use Rattle.hc_transcript.specs.Limits.{greatest_moment}
use Rattle.hc_service.specs.declared.event.Event.{Event}
use Rattle.hc_service.specs.declared.fault.StepFault.{StepFault}
use Rattle.hc_service.specs.declared.fault.StepFault.TheVariants.{Memory, MomentTooLarge, UnknownNumber, TooManyConnections, Failed}
use Rattle.hc_service.specs.Runs.{StepResult}
use Rattle.hc_order.specs.declared.occurrence.Occurrence.{Occurrence}
use Rattle.hc_order.specs.Log.{Move, carried}
use Rattle.hc_order.specs.Log.Move.{Heard}
use Rattle.hc_order.specs.Mirrors.{MayHappen}

-- the events of what happened, in order: those are what the cache is handed
abbrev pub events_of : List Occurrence → List Event
events_of [] = []
events_of (occurrence ∷ occurrences) = occurrence.event ∷ events_of occurrences

-- each was heard, and then what the cache did for it was carried out
abbrev pub passed : List Occurrence → List StepResult → List Move → List Move
passed (occurrence ∷ occurrences) (Ok actions ∷ results) log = passed occurrences results (carried actions.items (Heard occurrence ∷ log))
passed (occurrence ∷ occurrences) (Err step ∷ results) log = passed occurrences results (Heard occurrence ∷ log)
passed (occurrence ∷ occurrences) [] log = log
passed [] results log = log

-- each event was served
abbrev pub AreServed : List StepResult → Type 0
AreServed [] = Unit {0}
AreServed (Ok actions ∷ results) = AreServed results
AreServed (Err step ∷ results) = ⊥

-- each, up to the first that wasn't served, may happen by what has passed before it, in a cache with room for so many connections
abbrev pub AreOrderly : ℕ → List Occurrence → List StepResult → List Move → Type 0
AreOrderly room (occurrence ∷ occurrences) (Ok actions ∷ results) log =
    MayHappen room occurrence.event.of log × AreOrderly room occurrences results (carried actions.items (Heard occurrence ∷ log))
AreOrderly room (occurrence ∷ occurrences) (Err step ∷ results) log = MayHappen room occurrence.event.of log
AreOrderly room (occurrence ∷ occurrences) [] log = Unit {0}
AreOrderly room [] results log = Unit {0}

-- memory was refused, or the event's moment is too large to be told
abbrev pub IsUsual : Event → StepFault → Type 0
IsUsual event Memory = Unit {0}
IsUsual event MomentTooLarge = nat_lt greatest_moment event.moment ≡ true
IsUsual event UnknownNumber = ⊥
IsUsual event TooManyConnections = ⊥
IsUsual event Failed = ⊥

-- so it is with the first event that wasn't served
abbrev pub AreUsual : List Occurrence → List StepResult → Type 0
AreUsual (occurrence ∷ occurrences) (Ok actions ∷ results) = AreUsual occurrences results
AreUsual (occurrence ∷ occurrences) (Err step ∷ results) = IsUsual occurrence.event step
AreUsual (occurrence ∷ occurrences) [] = Unit {0}
AreUsual [] results = Unit {0}
