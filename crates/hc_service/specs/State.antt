-- What a cache knows, as contracts see it.
use Rattle.std.specs.Prelude.{ℕ, Bool, true, false, List, [], Option, Some, None, is_some, option_and_then}
use Rattle.std.specs.FinMap.{FinMap, empty, get}
use Rattle.std.specs.Ordering.{nat_cmp}
use Rattle.hc_store.specs.Entries.{Holdings}
use Rattle.hc_service.specs.declared.numbers.Numbers.{Numbers}
use Rattle.hc_service.specs.declared.open.ForwardKind.{ForwardKind}
use Rattle.hc_service.specs.declared.open.ForwardKind.TheVariants.{Conditional}
use Rattle.hc_service.specs.declared.open.OpenExchange.{OpenExchange}
use Rattle.hc_service.specs.declared.open.OpenForward.{OpenForward}
use Rattle.hc_service.specs.declared.open.Purpose.{Purpose}
use Rattle.hc_service.specs.declared.open.Purpose.TheVariants as purpose
use Rattle.hc_service.specs.declared.settings.CoreSettings.{CoreSettings}
use Rattle.hc_service.specs.declared.settings.CoreOptions.{CoreOptions}
use Rattle.hc_service.specs.Numbers.{no_numbers}

-- what is known by number
abbrev pub Table : Type 0 → Type 0
Table X = FinMap nat_cmp X

-- a connection of a client that is open
pub record Connection : Type 0 where
  -- the octets behind the last whole request, as far as they came
  pub unread : List ℕ
  -- the number of the exchange that awaits its reply, if one does
  pub exchange : Option ℕ
  -- nothing more is read: the client has ended, or unread octets were dropped; it closes behind the reply
  pub leaves : Bool

-- one that has just opened
abbrev pub new_connection : Connection
new_connection = record { unread = []; exchange = None; leaves = false }

-- the exchange that a forward is for
abbrev pub exchange_for : Purpose → Option ℕ
exchange_for purpose.Background = None
exchange_for (purpose.Reply e why kind) = Some e

-- whether a forward asks, by the cache's own condition, whether what is stored still holds
abbrev pub is_conditional : ForwardKind → Bool
is_conditional Conditional = true
is_conditional kind = false

-- a forward that is open, and the octets that came from the origin
pub record Awaited : Type 0 where
  pub forward : OpenForward
  pub received : List ℕ

pub record State : Type 0 where
  pub numbers : Numbers
  -- what is open, by number
  pub connections : Table Connection
  pub exchanges : Table OpenExchange
  pub forwards : Table Awaited
  pub store : Holdings

-- the exchanges and the forwards that are open
pub record OpenNow : Type 0 where
  pub exchanges : Table OpenExchange
  pub forwards : Table Awaited

abbrev pub open_now : State → OpenNow
open_now s = record { exchanges = s.exchanges; forwards = s.forwards }

-- an exchange of that connection awaits its reply
abbrev pub awaits_reply : ℕ → State → Bool
awaits_reply c s = is_some (option_and_then (λ (k : Connection). k.exchange) (get s.connections c))

-- an empty store of so many keys and octets, which keeps responses that set a cookie, or doesn't
abbrev pub empty_store : CoreSettings → Bool → Holdings
empty_store settings keeps_cookies = record { entries = []; keys = settings.keys; bytes = settings.bytes; keeps_cookies = keeps_cookies }

-- a cache to which nothing has happened, with those options
abbrev pub new_state_with : CoreSettings → CoreOptions → State
new_state_with settings options = record {
  numbers = no_numbers options.connections;
  connections = empty;
  exchanges = empty;
  forwards = empty;
  store = empty_store settings options.keeps_cookies;
}

-- the options where nothing else is said: room for 1,024 connections, and responses that set a cookie are stored
abbrev pub usual_options : CoreOptions
usual_options = record { connections = 1024; keeps_cookies = true }

-- a cache to which nothing has happened, with those
abbrev pub new_state : CoreSettings → State
new_state settings = new_state_with settings usual_options
