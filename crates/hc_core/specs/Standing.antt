-- What a cache keeps, and the state that contracts see.
use Rattle.std.specs.Prelude.{◌≡◌, ◌<◌, ◌⊎◌, ℕ, Bool, false, List, [], ◌∷◌, ◌++◌, Option, None, option_map, option_and_then}
use Rattle.std.specs.BTreeMap.{BTreeMap}
use Rattle.std.specs.FinMap.{get, remove}
use Rattle.std.specs.List.{AllByRecursion}
use Rattle.hc_fields.specs.Numbers.{end_of_moments}
use Rattle.hc_store.specs.Entries.{Holdings}
use Rattle.hc_service.specs.declared.action.Action.{Action}
use Rattle.hc_service.specs.declared.numbers.Numbers.{Numbers}
use Rattle.hc_service.specs.declared.open.OpenExchange.{OpenExchange}
use Rattle.hc_service.specs.declared.settings.CoreSettings.{CoreSettings}
use Rattle.hc_service.specs.Agreement.{IsReady}
use Rattle.hc_service.specs.declared.open.Purpose.{Purpose}
use Rattle.hc_service.specs.declared.open.Purpose.TheVariants as purpose
use Rattle.hc_service.specs.State.{State, Connection, Table}
use Rattle.hc_service.specs.declared.event.Event.{Event}
use Rattle.hc_service.specs.Serves.{Turn, Takes, Run, Reads, Serves, IsQuietAt, AwaitsStill, OwesEnd, ReadsOnAll}
use Rattle.hc_service.specs.Serves.Turn.{OriginSending, Answering, Failing}
use Rattle.hc_service.specs.Turns.Failure.{IsBroken}
use Rattle.hc_core.specs.declared.desk.Desk.{Desk}
use Rattle.hc_core.specs.declared.receiving.ForwardStage.{ForwardStage}
use Rattle.hc_core.specs.declared.receiving.ForwardStage.TheVariants.{HasEnded, IsOpen}
use Rattle.hc_core.specs.Waiting.{CanFinish}
use Rattle.hc_open.specs.declared.links.Client.{Client}
use Rattle.hc_open.specs.declared.open_exchanges.OpenExchanges.{OpenExchanges}
use Rattle.hc_open.specs.declared.open_links.OpenLinks.{OpenLinks}
use Rattle.hc_open.specs.Links.{AreClients, AreExchanges, AreLinks}

-- ---- the state

-- what a cache keeps
pub record Kept : Type 0 where
  pub name : List ℕ
  pub numbers : Numbers
  pub clients : BTreeMap ℕ Client
  pub exchanges : OpenExchanges
  pub links : OpenLinks
  pub store : Holdings

abbrev pub kept_of : {S H : Type 0} → Desk S H → Kept
kept_of desk = record {
  name = desk.name;
  numbers = desk.numbers;
  clients = desk.clients;
  exchanges = desk.exchanges;
  links = desk.links;
  store = desk.store;
}

-- what a cache of those settings keeps is that of the state
pub record IsKept (settings : CoreSettings) (kept : Kept) (s : State) : Type 0 where
  pub name : kept.name ≡ settings.name
  pub numbers : kept.numbers ≡ s.numbers
  pub clients : AreClients kept.clients s.connections
  pub exchanges : AreExchanges kept.exchanges s.exchanges
  pub links : AreLinks kept.links s.forwards
  pub store : kept.store ≡ s.store
  pub in_time : s.numbers.moment < end_of_moments

abbrev pub DeskStandsFor : {S H : Type 0} → CoreSettings → Desk S H → State → Type 0
DeskStandsFor settings desk s = IsKept settings (kept_of desk) s

-- it is that of some state
pub record CanServe {S H : Type 0} (desk : Desk S H) : Type 0 where
  pub settings : CoreSettings
  pub state : State
  pub stands : DeskStandsFor settings desk state

-- ---- parts that are taken out while they change

abbrev pub without_connection : ℕ → State → State
without_connection c s = record {
  numbers = s.numbers;
  connections = remove s.connections c;
  exchanges = s.exchanges;
  forwards = s.forwards;
  store = s.store;
}

abbrev pub without_forward : ℕ → State → State
without_forward f s = record {
  numbers = s.numbers;
  connections = s.connections;
  exchanges = s.exchanges;
  forwards = remove s.forwards f;
  store = s.store;
}

-- ---- what is done

-- where it starts: the settings, the state, and the actions that were given before
pub record Start : Type 0 where
  pub settings : CoreSettings
  pub state : State
  pub actions : List Action

abbrev pub from_state : CoreSettings → State → List Action → Start
from_state settings s before = record { settings = settings; state = s; actions = before }

-- where it has got: what is kept, and the actions that were given by then
pub record Reached (S H : Type 0) : Type 0 where
  pub actions : List Action
  pub desk : Desk S H

abbrev pub at_desk : {S H : Type 0} → List Action → Desk S H → Reached S H
at_desk actions desk = record { actions = actions; desk = desk }

-- actions stand behind those before, and do what is said
abbrev pub Adds : List Action → List Action → (List Action → Type 0) → Type 0
Adds before after Does = (added : List Action) × (after ≡ before ++ added) × Does added

-- ---- turns

-- the turn leads from the state to one of the cache
pub record GivesTurn {S H : Type 0} (start : Start) (turn : Turn) (reached : Reached S H) : Type 0 where
  pub state : State
  pub stands : DeskStandsFor start.settings reached.desk state
  pub takes : Adds start.actions reached.actions (λ added. Takes start.settings turn start.state added state)

-- turns that read the connection do, and nothing more can be read, unless there may be more
pub record GivesReading {S H : Type 0} (start : Start) (c : ℕ) (more : Bool) (reached : Reached S H) : Type 0 where
  pub state : State
  pub stands : DeskStandsFor start.settings reached.desk state
  pub turns : List Turn
  pub reads : AllByRecursion (Reads c) turns
  pub runs : Adds start.actions reached.actions (λ added. Run start.settings turns start.state added state)
  pub quiet : more ≡ false → IsQuietAt c state

-- the same on connections, one after another, until nothing more can be read
pub record GivesReadings {S H : Type 0} (start : Start) (clients : List ℕ) (reached : Reached S H) : Type 0 where
  pub state : State
  pub stands : DeskStandsFor start.settings reached.desk state
  pub turns : List Turn
  pub reads : ReadsOnAll clients turns state
  pub runs : Adds start.actions reached.actions (λ added. Run start.settings turns start.state added state)

-- what the client's end owes
pub record GivesEnd {S H : Type 0} (start : Start) (c : ℕ) (k : Connection) (reached : Reached S H) : Type 0 where
  pub state : State
  pub stands : DeskStandsFor start.settings reached.desk state
  pub turns : List Turn
  pub owes : OwesEnd c k.leaves k.exchange turns
  pub runs : Adds start.actions reached.actions (λ added. Run start.settings turns start.state added state)

-- the connection of the exchange that a forward is for
abbrev pub client_by : Table OpenExchange → Purpose → Option ℕ
client_by exchanges purpose.Background = None
client_by exchanges (purpose.Reply e why kind) = option_map (λ x. x.connection) (get exchanges e)

abbrev pub client_of : ℕ → State → Option ℕ
client_of f s = option_and_then (λ awaited. client_by s.exchanges awaited.forward.purpose) (get s.forwards f)

-- the turn, which ends the forward, leads to a state of the cache where the forward can end, and the client is that of the exchange that it was for
pub record GivesEnding {S H : Type 0} (start : Start) (turn : Turn) (f : ℕ) (client : Option ℕ) (reached : Reached S H) : Type 0 where
  pub state : State
  pub stands : DeskStandsFor start.settings reached.desk state
  pub takes : IsReady start.state
      → Adds start.actions reached.actions (λ added. Takes start.settings turn start.state added state) × (client ≡ client_of f start.state)

-- octets come on a forward: nothing more yet, or they end it with a response or by a fault
abbrev pub DoesReceiving : CoreSettings → ℕ → List ℕ → ForwardStage → State → List Action → State → Type 0
DoesReceiving settings f octets IsOpen s added s' = Run settings (OriginSending f octets ∷ []) s added s' × AwaitsStill f s'
DoesReceiving settings f octets (HasEnded client) s added s' =
    (Run settings (OriginSending f octets ∷ Answering f false ∷ []) s added s' ⊎ Run settings (OriginSending f octets ∷ Failing f IsBroken ∷ []) s added s')
    × (client ≡ client_of f s) × CanFinish f s s'

-- what came on a forward leads to a state of the cache where the forward can end
pub record GivesReceiving {S H : Type 0} (start : Start) (f : ℕ) (octets : List ℕ) (progress : ForwardStage) (reached : Reached S H) : Type 0 where
  pub state : State
  pub stands : DeskStandsFor start.settings reached.desk state
  pub does : IsReady start.state
      → Adds start.actions reached.actions (λ added. DoesReceiving start.settings f octets progress start.state added state)

-- ---- events

-- the event is served, and leads to a state of the cache, where each forward can end
pub record GivesService {S H : Type 0} (settings : CoreSettings) (event : Event) (s : State) (actions : List Action) (desk : Desk S H) : Type 0 where
  pub state : State
  pub stands : DeskStandsFor settings desk state
  pub serves : IsReady s → Serves settings event s actions state

-- ---- what stays of what is kept

-- one part of it
abbrev pub DeskKeepsName : {S H : Type 0} → Desk S H → Desk S H → Type 0
DeskKeepsName old new = new.name ≡ old.name

abbrev pub DeskKeepsNumbers : {S H : Type 0} → Desk S H → Desk S H → Type 0
DeskKeepsNumbers old new = new.numbers ≡ old.numbers

abbrev pub DeskKeepsExchanges : {S H : Type 0} → Desk S H → Desk S H → Type 0
DeskKeepsExchanges old new = new.exchanges ≡ old.exchanges

abbrev pub DeskKeepsLinks : {S H : Type 0} → Desk S H → Desk S H → Type 0
DeskKeepsLinks old new = new.links ≡ old.links

abbrev pub DeskKeepsHoldings : {S H : Type 0} → Desk S H → Desk S H → Type 0
DeskKeepsHoldings old new = new.store ≡ old.store

-- what is stored; and the name, as always
pub record DeskKeepsStore {S H : Type 0} (old new : Desk S H) : Type 0 where
  pub name : new.name ≡ old.name
  pub store : new.store ≡ old.store

-- the exchanges and the forwards that are open
pub record DeskKeepsOpen {S H : Type 0} (old new : Desk S H) : Type 0 where
  pub name : new.name ≡ old.name
  pub exchanges : new.exchanges ≡ old.exchanges
  pub links : new.links ≡ old.links

-- all but the numbers and the forwards
pub record DeskKeepsClients {S H : Type 0} (old new : Desk S H) : Type 0 where
  pub name : new.name ≡ old.name
  pub clients : new.clients ≡ old.clients
  pub exchanges : new.exchanges ≡ old.exchanges
  pub store : new.store ≡ old.store
