-- What is open at a cache's links, and what contracts see of it.
use Rattle.std.specs.Prelude.{◌≡◌, ℕ, Bool, true, false, ◌&&◌, nat_lt, List, length, Option, Some, None, is_some, option_map, if◌then◌else◌}
use Rattle.std.specs.declared.cmp.Ordering.{Ordering}
use Rattle.std.specs.BTreeMap.{BTreeMap, btree_map_len, get as kept_at}
use Rattle.std.specs.FinMap.{get, remove, values}
use Rattle.std.specs.List.{count_by, list_any}
use Rattle.std.specs.Ordering.{nat_cmp}
use Rattle.hc_head.specs.contracts.head.TargetOrd.TheImpl as target_order
use Rattle.hc_head.specs.declared.head.Target.{Target}
use Rattle.hc_head.specs.Methods.{is_head}
use Rattle.hc_head.specs.Targets.{same_target}
use Rattle.hc_incoming.specs.declared.requests.RequestReader.{RequestReader}
use Rattle.hc_incoming.specs.RequestReading as requests
use Rattle.hc_incoming.specs.ResponseReading as responses
use Rattle.hc_service.specs.declared.open.OpenExchange.{OpenExchange}
use Rattle.hc_service.specs.Joining.{may_be_joined, most_waiting, waiting_for, waits_for}
use Rattle.hc_service.specs.Reactions.{is_background}
use Rattle.hc_service.specs.State.{Table, Connection, Awaited}
use Rattle.hc_service.specs.Turns.{after_leaving}
use Rattle.hc_open.specs.declared.links.Client.{Client}
use Rattle.hc_open.specs.declared.links.Link.{Link}
use Rattle.hc_open.specs.declared.open_exchanges.OpenExchanges.{OpenExchanges}
use Rattle.hc_open.specs.declared.open_links.OpenLinks.{OpenLinks}
use Rattle.hc_open.specs.Groups.{AreGrouped}
use Rattle.hc_open.specs.Tables.{AreAlike, IsSame}

-- while an exchange awaits its reply, none of what is unread has been looked at
abbrev pub IsUntouched : Option ℕ → RequestReader → List ℕ → Type 0
IsUntouched (Some exchange) reader unread = requests.unread reader ≡ unread
IsUntouched None reader unread = Unit {0}

-- a client's connection: its reader was given what is unread
pub record IsClient (client : Client) (k : Connection) : Type 0 where
  pub reads : requests.WasGiven client.reader k.unread
  pub untouched : IsUntouched k.exchange client.reader k.unread
  pub exchange : client.exchange ≡ k.exchange
  pub leaves : client.leaves ≡ k.leaves

-- a forward's connection to the origin: its reader was given what has come
pub record IsLink (link : Link) (a : Awaited) : Type 0 where
  pub reads : responses.WasGiven (is_head a.forward.request.method) link.reader a.received
  pub forward : link.forward ≡ a.forward

abbrev pub AreClients : BTreeMap ℕ Client → Table Connection → Type 0
AreClients clients connections = AreAlike IsClient clients connections

-- ---- exchanges

-- it waits for that forward
abbrev pub waits_at : ℕ → OpenExchange → Bool
waits_at f x = waits_for f x.waits_for

-- those that wait for a forward are known by its number
pub record AreExchanges (kept : OpenExchanges) (exchanges : Table OpenExchange) : Type 0 where
  pub by_number : AreAlike IsSame kept.by_number exchanges
  pub waiting : AreGrouped nat_cmp waits_at kept.waiting.sets exchanges

-- the connection on which the exchange of that number came, if that is open
abbrev pub connection_at : Table OpenExchange → ℕ → Option ℕ
connection_at exchanges e = option_map (λ x. x.connection) (get exchanges e)

-- an exchange is taken out, if it is there
abbrev pub TakesExchange : ℕ → Option OpenExchange → Table OpenExchange → OpenExchanges → Type 0
TakesExchange e None exchanges kept = (get exchanges e ≡ None) × AreExchanges kept exchanges
TakesExchange e (Some x) exchanges kept = (get exchanges e ≡ Some x) × AreExchanges kept (remove exchanges e)

-- ---- forwards

-- the order of targets
abbrev pub by_target : Target → Target → Ordering
by_target = (target_order.ghosts).cmp

-- one that is open for the store alone, and for that target
abbrev pub is_behind : Target → Awaited → Bool
is_behind target a = is_background a && same_target a.forward.target target

-- the targets are those for which one is open for the store alone, and for none of them two are
pub record AreBehind (behind : BTreeMap Target ℕ) (forwards : Table Awaited) : Type 0 where
  pub at : (target : Target) → count_by (is_behind target) (values forwards) ≡ (if is_some (kept_at by_target behind target) then 1 else 0)
  pub many : count_by is_background (values forwards) ≡ btree_map_len behind

-- requests for that target may wait for it
abbrev pub is_joinable_for : Target → Awaited → Bool
is_joinable_for target a = may_be_joined a.forward.purpose && same_target a.forward.target target

pub record AreLinks (links : OpenLinks) (forwards : Table Awaited) : Type 0 where
  pub by_number : AreAlike IsLink links.by_number forwards
  pub behind : AreBehind links.behind forwards
  -- those that may be waited for are known by their target
  pub joinable : AreGrouped by_target is_joinable_for links.joinable.sets forwards

-- one more may wait for the forward of that number
abbrev pub has_place_at : Table OpenExchange → ℕ → Bool
has_place_at exchanges f = nat_lt (length (waiting_for f exchanges)) most_waiting

-- if it is for the store alone, no such one is open for its target
abbrev pub HasPlace : Awaited → Table Awaited → Type 0
HasPlace a forwards = is_background a ≡ true → list_any (is_behind a.forward.target) (values forwards) ≡ false

-- a forward's connection is taken out, if it is there
abbrev pub TakesLink : ℕ → Option Link → Table Awaited → OpenLinks → Type 0
TakesLink f None forwards links = (get forwards f ≡ None) × AreLinks links forwards
TakesLink f (Some link) forwards links = (a : Awaited) × (get forwards f ≡ Some a) × IsLink link a × AreLinks links (remove forwards f)

-- ---- clients

-- a client's connection, but for the exchange, of which none is open
pub record IsIdle (client : Client) (k : Connection) : Type 0 where
  pub reads : requests.WasGiven client.reader k.unread
  pub exchange : k.exchange ≡ None
  pub leaves : client.leaves ≡ k.leaves

-- a client's connection, but for the exchange, which opens: nothing behind its request has been looked at
pub record WillAwait (client : Client) (exchange : ℕ) (k : Connection) : Type 0 where
  pub reads : requests.HasUnread client.reader k.unread
  pub exchange_is : k.exchange ≡ Some exchange
  pub leaves : client.leaves ≡ k.leaves

-- it is the connection, of which the unread octets were dropped where they were too many
abbrev pub IsTrimmed : Bool → Client → Connection → Type 0
IsTrimmed true client k = IsClient client (after_leaving k)
IsTrimmed false client k = IsClient client k
