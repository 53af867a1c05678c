-- An exchange that awaits its reply, taken out with its connection.
use Rattle.std.specs.Prelude.{◌≡◌, ◌⊎◌, ℕ, Bool, ◌||◌, ◌++◌, Option, Some, None}
use Rattle.std.specs.BTreeMap.{BTreeMap}
use Rattle.std.specs.FinMap.{get, insert, remove}
use Rattle.hc_head.specs.declared.head.RequestHead.{RequestHead}
use Rattle.hc_head.specs.declared.head.ResponseHead.{ResponseHead}
use Rattle.hc_head.specs.Methods.{is_head}
use Rattle.hc_framing.specs.declared.message.Message.{Message}
use Rattle.hc_store.specs.Entries.{Holdings}
use Rattle.hc_service.specs.declared.cases.Cause.{Cause}
use Rattle.hc_service.specs.declared.numbers.Numbers.{Numbers}
use Rattle.hc_service.specs.declared.open.ForwardKind.TheVariants.{Plain}
use Rattle.hc_service.specs.declared.open.OpenExchange.{OpenExchange}
use Rattle.hc_service.specs.declared.open.Purpose.{Purpose}
use Rattle.hc_service.specs.declared.open.Purpose.TheVariants as purpose
use Rattle.hc_service.specs.Answers.{Outcome}
use Rattle.hc_service.specs.Answers.Outcome.{Replies, GoesAnew}
use Rattle.hc_service.specs.Asking.{ends_connection}
use Rattle.hc_service.specs.Numbers.{one_more, sent}
use Rattle.hc_service.specs.Reactions.{forward_anew}
use Rattle.hc_service.specs.Replying.{Wanted}
use Rattle.hc_service.specs.Sending.{send_actions}
use Rattle.hc_service.specs.State.{Table, Connection, Awaited, exchange_for}
use Rattle.hc_service.specs.Turns.{sent_forward}
use Rattle.hc_reactions.specs.declared.sending.Addressee.{Addressee}
use Rattle.hc_core.specs.declared.desk.Desk.{Desk}
use Rattle.hc_open.specs.declared.links.Client.{Client}
use Rattle.hc_open.specs.declared.open_exchanges.OpenExchanges.{OpenExchanges}
use Rattle.hc_core.specs.declared.answering.HeldExchange.{HeldExchange}
use Rattle.hc_open.specs.Links.{AreClients, AreExchanges, AreLinks, IsClient}
use Rattle.hc_core.specs.Reading.{RepliesTo}
use Rattle.hc_core.specs.Standing.{DeskKeepsHoldings, DeskKeepsName, Reached}

-- the exchange and its connection were there, and are taken out
pub record IsTaken (number : ℕ) (held : HeldExchange) (table : Table OpenExchange) (connections : Table Connection) (exchanges : OpenExchanges) (clients : BTreeMap ℕ Client) : Type 0 where
  pub number_is : held.number ≡ number
  pub connection : Connection
  pub is_open : get table number ≡ Some held.exchange
  pub there : get connections held.exchange.connection ≡ Some connection
  pub is_client : IsClient held.client connection
  pub are_exchanges : AreExchanges exchanges (remove table number)
  pub are_clients : AreClients clients (remove connections held.exchange.connection)

-- one of both isn't there; what is left is that of some tables
pub record IsMissing (number : ℕ) (table : Table OpenExchange) (connections : Table Connection) (exchanges : OpenExchanges) (clients : BTreeMap ℕ Client) : Type 0 where
  pub no_connection : (exchange : OpenExchange) → get table number ≡ Some exchange → get connections exchange.connection ≡ None
  pub exchanges_left : Table OpenExchange
  pub connections_left : Table Connection
  pub are_exchanges : AreExchanges exchanges exchanges_left
  pub are_clients : AreClients clients connections_left

abbrev pub TakesExchange : ℕ → Option HeldExchange → Table OpenExchange → Table Connection → OpenExchanges → BTreeMap ℕ Client → Type 0
TakesExchange number (Some held) table connections exchanges clients = IsTaken number held table connections exchanges clients
TakesExchange number None table connections exchanges clients = IsMissing number table connections exchanges clients

-- ---- its reply

-- its connection closes behind the reply
abbrev pub is_last : Numbers → HeldExchange → Bool
is_last n held = ends_connection held.exchange.request || (held.client.leaves || n.closing)

-- to whom its reply goes
abbrev pub addressee_of : HeldExchange → Bool → Addressee
addressee_of held closes =
    record { exchange = held.number; to_head = is_head held.exchange.request.method; connection = held.exchange.connection; closes = closes }

-- the reply that it wants of a cache
abbrev pub wanted_of : {S H : Type 0} → Desk S H → HeldExchange → Wanted
wanted_of desk held = record { name = desk.name; moment = desk.numbers.moment; asked = held.exchange.request; closes = is_last desk.numbers held }

-- it gets a reply, which is decided by what is stored
pub record GivesReply {S H : Type 0} (held : HeldExchange) (decides : Message ResponseHead → Holdings → Holdings → Type 0) (old new : Reached S H) : Type 0 where
  pub reply : Message ResponseHead
  pub decided : decides reply old.desk.store new.desk.store
  pub replies : RepliesTo held (is_last old.desk.numbers held) reply old new

-- ---- its forward anew

abbrev pub request_anew : {S H : Type 0} → Desk S H → HeldExchange → Message RequestHead
request_anew desk held = forward_anew desk.name held.exchange.target held.exchange.request

-- a request goes to the origin for an exchange that was taken out, which is put back as the one that is told, and awaits its reply still; what is stored may change
pub record AsksFor {S H : Type 0} (held : HeldExchange) (x : OpenExchange) (request : Message RequestHead) (aim : Purpose) (old new : Reached S H) : Type 0 where
  pub name : DeskKeepsName old.desk new.desk
  pub numbers : new.desk.numbers ≡ sent old.desk.numbers
  pub clients : (connections : Table Connection) (k : Connection) → AreClients old.desk.clients connections → IsClient held.client k
      → AreClients new.desk.clients (insert connections held.exchange.connection k)
  pub exchanges : (table : Table OpenExchange) → AreExchanges old.desk.exchanges table
      → AreExchanges new.desk.exchanges (insert table held.number x)
  pub links : (forwards : Table Awaited) → AreLinks old.desk.links forwards → AreLinks new.desk.links (insert forwards (one_more old.desk.numbers.forward)
      (sent_forward request.head held.exchange.target old.desk.numbers.moment aim))
  pub actions : new.actions
      ≡ old.actions ++ send_actions (one_more old.desk.numbers.forward) old.desk.numbers.moment (exchange_for aim) request

-- and nothing else changes
pub record SendsFor {S H : Type 0} (held : HeldExchange) (request : Message RequestHead) (aim : Purpose) (old new : Reached S H) : Type 0 where
  pub asks : AsksFor held held.exchange request aim old new
  pub store : DeskKeepsHoldings old.desk new.desk

-- its request goes to the origin anew, and it awaits its reply still
abbrev pub AsksAnew : {S H : Type 0} → HeldExchange → Cause → Reached S H → Reached S H → Type 0
AsksAnew held why old new = AsksFor held held.exchange (request_anew old.desk held) (purpose.Reply held.number why Plain) old new

-- and nothing else changes
pub record SendsAnew {S H : Type 0} (held : HeldExchange) (why : Cause) (old new : Reached S H) : Type 0 where
  pub asks : AsksAnew held why old new
  pub store : DeskKeepsHoldings old.desk new.desk

-- as is decided by what is stored
pub record GivesForwardAnew {S H : Type 0} (held : HeldExchange) (why : Cause) (decides : Holdings → Holdings → Type 0) (old new : Reached S H) : Type 0 where
  pub decided : decides old.desk.store new.desk.store
  pub asks : AsksAnew held why old new

-- it gets its reply, or its request goes to the origin anew
abbrev pub GivesOutcome : {S H : Type 0} → HeldExchange → Cause → (Outcome → Holdings → Holdings → Type 0) → Reached S H → Reached S H → Type 0
GivesOutcome held why decides old new =
    GivesReply held (λ reply. decides (Replies reply)) old new ⊎ GivesForwardAnew held why (decides GoesAnew) old new
