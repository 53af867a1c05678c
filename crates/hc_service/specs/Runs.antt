-- Runs: events, one after another, from a cache and what has happened before.
use Rattle.std.specs.Prelude.{◌≡◌, ℕ, ◌==◌, List, [], ◌∷◌, ◌++◌, Option, Some, None, Result, Ok, Err, if◌then◌else◌}
use Rattle.std.specs.Global.{Global}
use Rattle.std.specs.List.{flat_map}
use Rattle.std.specs.declared.vec.Vec.{Vec}
use Rattle.hc_transcript.specs.declared.record.Record.{Record}
use Rattle.hc_transcript.specs.Items.{Item}
use Rattle.hc_transcript.specs.Records.{opening, record_text}
use Rattle.hc_transcript.specs.Transcript.{AreReadAs}
use Rattle.hc_history.specs.declared.settings.Settings.{Settings}
use Rattle.hc_history.specs.declared.settings.UnmarkedReplies.TheVariants.{ErrorsOnly}
use Rattle.hc_history.specs.declared.verdicts.Counts.{Counts}
use Rattle.hc_history.specs.declared.verdicts.Verdict.TheVariants.{Yes}
use Rattle.hc_history.specs.Allowed.{nothing_allowed}
use Rattle.hc_history.specs.Right.{IsRight}
use Rattle.hc_history.specs.Verdicts.{IsVerdict}
use Rattle.hc_service.specs.declared.event.Event.{Event}
use Rattle.hc_service.specs.declared.event.Happening.{Happening}
use Rattle.hc_service.specs.declared.event.Happening.TheVariants.{ClientBytes, OriginBytes}
use Rattle.hc_service.specs.declared.action.Action.{Action}
use Rattle.hc_service.specs.declared.fault.StepFault.{StepFault}
use Rattle.hc_service.specs.declared.fault.StepFault.TheVariants.{Memory, MomentTooLarge, UnknownNumber, TooManyConnections, Failed}
use Rattle.hc_service.specs.declared.settings.CoreSettings.{CoreSettings}
use Rattle.hc_service.specs.State.{State}
use Rattle.hc_service.specs.Sending.{recorded_format, records_of}
use Rattle.hc_service.specs.Serves.{Turn, Serves, first_fault}
use Rattle.hc_service.specs.Serves.Turn.{ClientSending, OriginSending}
use Rattle.hc_service.specs.Agreement.{History, Agrees}

-- ---- what a step makes of what has happened

-- records, the oldest first, behind others, of which the newest is first
abbrev pub behind : List Record → List Record → List Record
behind [] records = records
behind (r ∷ more) records = behind more (r ∷ records)

-- octets come at that number
abbrev pub with_octets : ℕ → List ℕ → (ℕ → List ℕ) → ℕ → List ℕ
with_octets n octets before m = if m == n then before m ++ octets else before m

-- what came on connections, and from the origin, with that turn
abbrev pub client_octets_with : Turn → (ℕ → List ℕ) → ℕ → List ℕ
client_octets_with (ClientSending c octets) before = with_octets c octets before
client_octets_with turn before = before

abbrev pub origin_octets_with : Turn → (ℕ → List ℕ) → ℕ → List ℕ
origin_octets_with (OriginSending f octets) before = with_octets f octets before
origin_octets_with turn before = before

-- and with that event
abbrev pub client_octets_by : Happening → (ℕ → List ℕ) → ℕ → List ℕ
client_octets_by (ClientBytes c octets) before = with_octets c octets before
client_octets_by other before = before

abbrev pub origin_octets_by : Happening → (ℕ → List ℕ) → ℕ → List ℕ
origin_octets_by (OriginBytes f octets) before = with_octets f octets before
origin_octets_by other before = before

-- the audit that lets nothing pass: no slack, no names that aren't compared, no reply without a mark but errors, and nothing beside the strict rules
abbrev pub strict : Settings
strict = record { slack = 0; ignored = []; unmarked = ErrorsOnly; allowed = nothing_allowed }

-- each of the newer items is right behind those before it
abbrev pub AllRightBehind : List Item → List Item → Type 0
AllRightBehind [] items = Unit {0}
AllRightBehind (item ∷ newer) items = AllRightBehind newer items × IsRight recorded_format strict (newer ++ items) item

-- the records that are given out stand behind the others, and each reply among them is right
pub record Records (actions : List Action) (old new : History) : Type 0 where
  pub newer : List Item
  pub records_are : new.records ≡ behind (records_of actions) old.records
  pub items_are : new.items ≡ newer ++ old.items
  pub right : AllRightBehind newer old.items

-- what a turn makes of what has happened
pub record GoesOnBy (turn : Turn) (actions : List Action) (old new : History) : Type 0 where
  pub records : Records actions old new
  pub client_octets : new.client_octets ≡ client_octets_with turn old.client_octets
  pub origin_octets : new.origin_octets ≡ origin_octets_with turn old.origin_octets

-- what a step makes of it
pub record GoesOn (happening : Happening) (actions : List Action) (old new : History) : Type 0 where
  pub records : Records actions old new
  pub client_octets : new.client_octets ≡ client_octets_by happening old.client_octets
  pub origin_octets : new.origin_octets ≡ origin_octets_by happening old.origin_octets

-- nothing has happened
abbrev pub nothing_yet : History
nothing_yet = record { records = []; items = []; client_octets = λ _. []; origin_octets = λ _. [] }

-- ---- runs

-- what a step answers
abbrev pub StepResult : Type 0
StepResult = Result (Vec Action Global) StepFault

-- an event isn't served by that fault, and nothing changes
abbrev pub IsRefusedBy : StepFault → Event → State → Type 0
IsRefusedBy fault event s = first_fault event s ≡ Some fault

-- from a cache that agrees with what has happened, the events lead with these answers and these records to that cache; each state between agrees with what
-- has happened by then. A refused growth ends the run, and leaves no cache that agrees with anything
abbrev pub Runs : CoreSettings → State → History → List Event → List StepResult → List Record → Option State → Type 0
Runs settings s h [] [] records end = Agrees s h × (records ≡ []) × (end ≡ Some s)
Runs settings s h (event ∷ events) (Ok actions ∷ results) records end =
    Agrees s h
    × (mid : State) × (later : History) × (rest : List Record)
    × Serves settings event s actions.items mid × GoesOn event.of actions.items h later
    × (records ≡ records_of actions.items ++ rest)
    × Runs settings mid later events results rest end
Runs settings s h (event ∷ events) (Err Memory ∷ results) records end =
    Agrees s h × (first_fault event s ≡ None) × (results ≡ []) × (records ≡ []) × (end ≡ None)
Runs settings s h (event ∷ events) (Err MomentTooLarge ∷ results) records end =
    Agrees s h × IsRefusedBy MomentTooLarge event s × Runs settings s h events results records end
Runs settings s h (event ∷ events) (Err UnknownNumber ∷ results) records end =
    Agrees s h × IsRefusedBy UnknownNumber event s × Runs settings s h events results records end
Runs settings s h (event ∷ events) (Err TooManyConnections ∷ results) records end =
    Agrees s h × IsRefusedBy TooManyConnections event s × Runs settings s h events results records end
Runs settings s h (event ∷ events) (Err Failed ∷ results) records end = ⊥
Runs settings s h [] (result ∷ results) records end = ⊥
Runs settings s h (event ∷ events) [] records end = ⊥

-- each event that a run serves leads from one cache to the next in such a way
abbrev pub EachLeads : (State → State → Type 0) → (settings : CoreSettings) (s : State) (h : History) (events : List Event) (results : List StepResult)
    (records : List Record) (end : Option State) → Runs settings s h events results records end → Type 0
EachLeads P settings s h (event ∷ events) (Ok actions ∷ results) records end runs =
    P s runs.1 × EachLeads P settings runs.1 runs.2 events results runs.3 end runs.7
EachLeads P settings s h (event ∷ events) (Err MomentTooLarge ∷ results) records end runs = EachLeads P settings s h events results records end runs.2
EachLeads P settings s h (event ∷ events) (Err UnknownNumber ∷ results) records end runs = EachLeads P settings s h events results records end runs.2
EachLeads P settings s h (event ∷ events) (Err TooManyConnections ∷ results) records end runs = EachLeads P settings s h events results records end runs.2
EachLeads P settings s h events results records end runs = Unit {0}

-- ---- steps, without what has happened

-- from a cache the events lead with these answers to that cache. A refused growth ends them, and leaves none
abbrev pub Steps : CoreSettings → State → List Event → List StepResult → Option State → Type 0
Steps settings s [] [] end = end ≡ Some s
Steps settings s (event ∷ events) (Ok actions ∷ results) end =
    (mid : State) × Serves settings event s actions.items mid × Steps settings mid events results end
Steps settings s (event ∷ events) (Err Memory ∷ results) end = (first_fault event s ≡ None) × (results ≡ []) × (end ≡ None)
Steps settings s (event ∷ events) (Err MomentTooLarge ∷ results) end = IsRefusedBy MomentTooLarge event s × Steps settings s events results end
Steps settings s (event ∷ events) (Err UnknownNumber ∷ results) end = IsRefusedBy UnknownNumber event s × Steps settings s events results end
Steps settings s (event ∷ events) (Err TooManyConnections ∷ results) end =
    IsRefusedBy TooManyConnections event s × Steps settings s events results end
Steps settings s (event ∷ events) (Err Failed ∷ results) end = ⊥
Steps settings s [] (result ∷ results) end = ⊥
Steps settings s (event ∷ events) [] end = ⊥

-- the records that the answers give out, the oldest first
abbrev pub records_given : List StepResult → List Record
records_given [] = []
records_given (Ok actions ∷ results) = records_of actions.items ++ records_given results
records_given (Err fault ∷ results) = records_given results

-- ---- what has happened behind a run

-- the records stand behind the others, and each reply among them is right
pub record GoesOnWith (records : List Record) (old new : History) : Type 0 where
  pub newer : List Item
  pub records_are : new.records ≡ behind records old.records
  pub items_are : new.items ≡ newer ++ old.items
  pub right : AllRightBehind newer old.items

-- a cache that was led to, if one is left, agrees with what has happened
abbrev pub EndAgrees : Option State → History → Type 0
EndAgrees None h = Unit {0}
EndAgrees (Some s) h = Agrees s h

-- what has happened behind a run: the records are read, go on behind those before, and each reply among them is right; and a cache that was led to agrees
pub record RunsTo (records : List Record) (h : History) (end : Option State) : Type 0 where
  pub later : History
  pub goes_on : GoesOnWith records h later
  pub are_read : AreReadAs recorded_format later.records later.items
  pub agrees : EndAgrees end later

-- events, what was answered to each, and the records that the answers gave out
pub record Course : Type 0 where
  pub events : List Event
  pub results : List StepResult
  pub records : List Record

-- behind a run that has led to a cache, what has happened is such that the cache agrees with it, and that a run which goes on from there is, with the first, one run
pub record RunsOn (settings : CoreSettings) (s : State) (h : History) (course : Course) (mid : State) : Type 0 where
  pub later : History
  pub agrees : Agrees mid later
  pub goes_on : (others : List Event) (answers : List StepResult) (more : List Record) (end : Option State) → Runs settings mid later others answers more end
      → Runs settings s h (course.events ++ others) (course.results ++ answers) (course.records ++ more) end

-- ---- the transcript of a run

-- records, the oldest first, as they are written
abbrev pub transcript_of : List Record → List ℕ
transcript_of records = opening recorded_format ++ flat_map (record_text recorded_format) records

-- the audit that lets nothing pass says yes to it
pub record IsJudgedRight (records : List Record) : Type 0 where
  pub counts : Counts
  pub verdict : IsVerdict (transcript_of records) strict (Yes counts)
