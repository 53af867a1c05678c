-- Which events are served, and what that makes of what happens then.
use Rattle.std.proofs.Common.{◌≡◌, ◌<◌, ℕ, Bool, true, false, not, max, nat_lt, List, Option, Some, None, Result, Ok, Err, IfOk, refl, sym, ap, ◌∙◌, subst, inl, inr, arith, if◌then◌else◌}
use Rattle.std.specs.Global.{Global}
use Rattle.std.specs.declared.alloc.AllocError.{AllocError}
use Rattle.std.specs.declared.vec.Vec.{Vec}
use Rattle.hc_service.specs.declared.event.Event.{Event}
use Rattle.hc_service.specs.declared.event.Happening.{Happening}
use Rattle.hc_service.specs.declared.event.Happening.TheVariants.{ClientOpened, ClientBytes, ClientEnd, OriginBytes, OriginEnd, OriginFailed, Stopping}
use Rattle.hc_fields.specs.Numbers.{end_of_moments}
use Rattle.hc_service.specs.declared.action.Action.{Action}
use Rattle.hc_service.specs.declared.fault.StepFault.{StepFault}
use Rattle.hc_service.specs.declared.fault.StepFault.TheVariants.{Memory, MomentTooLarge, UnknownNumber, TooManyConnections, Failed}
use Rattle.hc_service.specs.declared.numbers.Numbers.{Numbers}
use Rattle.hc_service.specs.declared.settings.CoreSettings.{CoreSettings}
use Rattle.hc_service.specs.Numbers.{at_moment}
use Rattle.hc_service.specs.Serves.{Owes, Turn, first_fault, is_full, is_known, passed_to}
use Rattle.hc_service.specs.State.{State}
use Rattle.hc_transcript.specs.Limits.{greatest_moment}
use Rattle.hc_core.specs.declared.desk.Desk.{Desk}
use Rattle.hc_core.specs.declared.incidents.Incidents.{Incidents}
use Rattle.hc_core.specs.Happenings.{CanTake, GivesDoing, TakesOn}
use Rattle.hc_core.specs.Standing.{CanServe, GivesService, IsKept, DeskStandsFor}
use Rattle.hc_core.specs.Steps.{Cache, CanStep, GivesStep, IsOfTest, StandsFor, TellsFirst, cache_of}

-- ---- tests

-- the first of three tests that fails
abbrev first_of_tests : Bool → Bool → Bool → Option StepFault
first_of_tests late known full = if late then Some MomentTooLarge else if not known then Some UnknownNumber else if full then Some TooManyConnections else None

none_by : (late known full : Bool) → first_of_tests late known full ≡ None → (known ≡ true) × (full ≡ false)
none_by true known full none = absurd (cc)
none_by false true true none = absurd (cc)
none_by false true false none = (refl, refl)
none_by false false full none = absurd (cc)

-- an event that is served is about something that is open, or that may be opened
pub passes_tests : (event : Event) (s : State) → first_fault event s ≡ None → (is_known event.of s ≡ true) × (is_full event.of s ≡ false)
passes_tests event s none = none_by (nat_lt greatest_moment event.moment) (is_known event.of s) (is_full event.of s) none

-- ---- steps

-- what it keeps is that of some state, since it hasn't failed
pub can_step : {S H : Type 0} (failed : Bool) (d : Desk S H) → CanStep failed d → failed ≡ false → CanServe d
can_step failed d (inl has) hasnt = absurd (cc)
can_step failed d (inr can) hasnt = can

-- a cache that stands for a state keeps what that state has
pub keeps : {S H : Type 0} (settings : CoreSettings) (s : State) (failed : Bool) (d : Desk S H) (cache : Cache) → cache_of failed d ≡ cache → StandsFor settings cache s → DeskStandsFor settings d s
keeps settings s failed d cache is stands = subst (λ (x : Cache). IsKept settings x.kept s) (sym is) stands.stands

-- what a test tells is what a step answers
pub refused : (fault : StepFault) (settings : CoreSettings) (event : Event) (s : State) (cache : Cache) → IsOfTest fault → Some fault ≡ first_fault event s
    → GivesStep (Err fault) settings event s cache
refused MomentTooLarge settings event s cache kind is = sym is
refused UnknownNumber settings event s cache kind is = sym is
refused TooManyConnections settings event s cache kind is = sym is
refused Memory settings event s cache kind is = absurd kind
refused Failed settings event s cache kind is = absurd kind

-- and so it is told whatever a step makes of the state
pub told : (fault : StepFault) (event : Event) (s : State) → IsOfTest fault → Some fault ≡ first_fault event s → TellsFirst (Err fault) event s
told MomentTooLarge event s kind is = sym is
told UnknownNumber event s kind is = sym is
told TooManyConnections event s kind is = sym is
told Memory event s kind is = absurd kind
told Failed event s kind is = absurd kind

-- ---- events

-- what is owed for what happens doesn't look at the moment
owes_now : (moment : ℕ) (s : State) (of : Happening) (turns : List Turn) (s' : State) → Owes of turns (passed_to moment s) s' → Owes of turns s s'
owes_now moment s (ClientOpened c) turns s' owes = owes
owes_now moment s (ClientBytes c octets) turns s' owes = owes
owes_now moment s (ClientEnd c) turns s' owes = owes
owes_now moment s (OriginBytes f octets) turns s' owes = owes
owes_now moment s (OriginEnd f) turns s' owes = owes
owes_now moment s (OriginFailed f) turns s' owes = owes
owes_now moment s Stopping turns s' owes = owes

known_then : (moment : ℕ) (s : State) (of : Happening) → is_known of s ≡ true → is_known of (passed_to moment s) ≡ true
known_then moment s (ClientOpened c) known = known
known_then moment s (ClientBytes c octets) known = known
known_then moment s (ClientEnd c) known = known
known_then moment s (OriginBytes f octets) known = known
known_then moment s (OriginEnd f) known = known
known_then moment s (OriginFailed f) known = known
known_then moment s Stopping known = known

place_then : (moment : ℕ) (s : State) (of : Happening) → is_full of s ≡ false → is_full of (passed_to moment s) ≡ false
place_then moment s (ClientOpened c) place = place
place_then moment s (ClientBytes c octets) place = place
place_then moment s (ClientEnd c) place = place
place_then moment s (OriginBytes f octets) place = place
place_then moment s (OriginEnd f) place = place
place_then moment s (OriginFailed f) place = place
place_then moment s Stopping place = place

module _ (S H : Type 0) where
  -- the moment has come
  pub passed : (settings : CoreSettings) (moment : ℕ) (d : Desk S H) (s : State) (numbers : Numbers) (incidents : Incidents) → DeskStandsFor {S = S} {H = H} settings d s → moment < end_of_moments
      → numbers ≡ at_moment moment d.numbers
      → DeskStandsFor {S = S} {H = H} settings
      (record { alloc = d.alloc; incidents = incidents; name = d.name; numbers = numbers; clients = d.clients; exchanges = d.exchanges; links = d.links; store = d.store }) (passed_to moment s)
  passed settings moment d s numbers incidents stands in-time is = record {
    name = stands.name;
    numbers = is ∙ ap (at_moment moment) stands.numbers;
    clients = stands.clients;
    exchanges = stands.exchanges;
    links = stands.links;
    store = stands.store;
    in_time = within s.numbers.moment moment stands.in_time in-time;
  }
    where
      within : (a b : ℕ) → a < end_of_moments → b < end_of_moments → max a b < end_of_moments
      within a b less other = omega (arith, less, other)

  pub can_take_then : (moment : ℕ) (of : Happening) (d : Desk S H) (numbers : Numbers) (incidents : Incidents) → CanTake {S = S} {H = H} of d → moment < end_of_moments → numbers ≡ at_moment moment d.numbers
      → CanTake {S = S} {H = H} of (record { alloc = d.alloc; incidents = incidents; name = d.name; numbers = numbers; clients = d.clients; exchanges = d.exchanges; links = d.links; store = d.store })
  can_take_then moment of d numbers incidents can in-time is = record {
    settings = can.settings;
    state = passed_to moment can.state;
    stands = passed can.settings moment d can.state numbers incidents can.stands in-time is;
    known = known_then moment can.state of can.known;
    has_place = place_then moment can.state of can.has_place;
  }

  -- a state in which the event is served is one in which it may happen
  pub can_take : (event : Event) (d : Desk S H) (can : CanServe {S = S} {H = H} d) → first_fault event can.state ≡ None → CanTake {S = S} {H = H} event.of d
  can_take event d can none =
      let tests = passes_tests event can.state none in
      record { settings = can.settings; state = can.state; stands = can.stands; known = tests.0; has_place = tests.1 }

  pub can_serve : (of : Happening) (d : Desk S H) → CanTake {S = S} {H = H} of d → CanServe {S = S} {H = H} d
  can_serve of d can = record { settings = can.settings; state = can.state; stands = can.stands }

  serves_event : (settings : CoreSettings) (event : Event) (s : State) (actions : List Action) (d : Desk S H) → first_fault event s ≡ None
      → GivesDoing {S = S} {H = H} settings event.of (passed_to event.moment s) actions d → GivesService {S = S} {H = H} settings event s actions d
  serves_event settings event s actions d none gives = record {
    state = gives.state;
    stands = gives.stands;
    serves = λ ready.
        let does = gives.does (record { exchanges = ready.exchanges; alone = ready.alone; connections = ready.connections }) in
        record {
          is_served = none;
          turns = does.turns;
          owes = owes_now event.moment s event.of does.turns gives.state does.owes;
          run = does.run;
        };
  }

  -- it is served by what is owed for what happens
  pub served : (settings : CoreSettings) (event : Event) (s : State) (result : Result (Vec Action Global) AllocError) (mid d : Desk S H) → first_fault event s ≡ None
      → DeskStandsFor {S = S} {H = H} settings mid (passed_to event.moment s) → TakesOn {S = S} {H = H} event.of mid result d
      → IfOk result (λ (actions : Vec Action Global). GivesService {S = S} {H = H} settings event s actions.items d)
  served settings event s result mid d none stands takes =
      let tests = passes_tests event s none in
      each result (takes settings (passed_to event.moment s) stands (known_then event.moment s event.of tests.0) (place_then event.moment s event.of tests.1))
    where
      each : (r : Result (Vec Action Global) AllocError) → IfOk r (λ (actions : Vec Action Global). GivesDoing {S = S} {H = H} settings event.of (passed_to event.moment s) actions.items d)
          → IfOk r (λ (actions : Vec Action Global). GivesService {S = S} {H = H} settings event s actions.items d)
      each (Ok actions) gives = serves_event settings event s actions.items d none gives
      each (Err fault) gives = tt
