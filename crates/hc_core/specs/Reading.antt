-- A whole request that was read of a connection.
use Rattle.std.specs.Prelude.{◌≡◌, ℕ, Bool, ◌++◌, length, drop, Option, Some, None, if◌then◌else◌}
use Rattle.std.specs.BTreeMap.{BTreeMap, get as kept_at}
use Rattle.std.specs.FinMap.{insert}
use Rattle.std.specs.Ordering.{nat_cmp}
use Rattle.hc_head.specs.declared.head.RequestHead.{RequestHead}
use Rattle.hc_head.specs.declared.head.ResponseHead.{ResponseHead}
use Rattle.hc_head.specs.declared.head.Target.{Target}
use Rattle.hc_head.specs.Methods.{is_head}
use Rattle.hc_framing.specs.declared.message.Message.{Message}
use Rattle.hc_incoming.specs.Requests.{IsRequest}
use Rattle.hc_incoming.specs.RequestReading.{HasUnread, unread}
use Rattle.hc_service.specs.declared.numbers.Numbers.{Numbers}
use Rattle.hc_service.specs.declared.open.OpenExchange.{OpenExchange}
use Rattle.hc_service.specs.declared.open.Purpose.{Purpose}
use Rattle.hc_service.specs.declared.open.Purpose.TheVariants as purpose
use Rattle.hc_service.specs.Numbers.{noted, one_more, sent}
use Rattle.hc_service.specs.Sending.{reply_actions, send_actions}
use Rattle.hc_service.specs.State.{Table, Connection, Awaited, exchange_for}
use Rattle.hc_service.specs.Turns.{sent_forward}
use Rattle.hc_core.specs.declared.answering.HeldExchange.{HeldExchange}
use Rattle.hc_open.specs.declared.links.Client.{Client}
use Rattle.hc_open.specs.Links.{AreClients, AreExchanges, AreLinks, HasPlace, IsIdle, WillAwait}
use Rattle.hc_core.specs.declared.desk.Desk.{Desk}
use Rattle.hc_core.specs.Standing.{DeskKeepsClients, DeskKeepsExchanges, DeskKeepsHoldings, DeskKeepsLinks, DeskKeepsNumbers, DeskKeepsOpen, DeskKeepsStore, Reached}

-- the request begins what was unread of the connection, on which no exchange awaits its reply, and the reader has all behind it still to read
pub record IsAsked (client : Client) (k : Connection) (request : Message RequestHead) (target : Target) (size : ℕ) : Type 0 where
  pub idle : k.exchange ≡ None
  pub arrives : IsRequest k.unread request target size
  pub behind : HasUnread client.reader (drop size k.unread)
  pub leaves : client.leaves ≡ k.leaves

-- ---- replies and forwards of an exchange that is held, with its connection, while both change

-- its reply goes out, behind which its connection goes on unless it closes; what is stored may change
pub record RepliesTo {S H : Type 0} (held : HeldExchange) (closes : Bool) (reply : Message ResponseHead) (old new : Reached S H) : Type 0 where
  pub numbers : new.desk.numbers ≡ noted old.desk.numbers
  pub clients : (connections : Table Connection) (k : Connection) → AreClients old.desk.clients connections → IsIdle held.client k
      → AreClients new.desk.clients (if closes then connections else insert connections held.exchange.connection k)
  pub keeps : DeskKeepsOpen old.desk new.desk
  pub actions : new.actions
      ≡ old.actions ++ reply_actions held.number old.desk.numbers.moment (is_head held.exchange.request.method) held.exchange.connection closes reply

-- and nothing else changes
pub record SendsReply {S H : Type 0} (held : HeldExchange) (closes : Bool) (reply : Message ResponseHead) (old new : Reached S H) : Type 0 where
  pub replies : RepliesTo held closes reply old new
  pub store : DeskKeepsHoldings old.desk new.desk

-- a forward for the store alone, as it opens
abbrev pub opens_behind : Target → Message RequestHead → Numbers → Awaited
opens_behind target validation numbers = sent_forward validation.head target numbers.moment purpose.Background

-- a request goes to the origin for the store alone, and nothing else changes
pub record SendsBehind {S H : Type 0} (target : Target) (validation : Message RequestHead) (old new : Reached S H) : Type 0 where
  pub numbers : new.desk.numbers ≡ sent old.desk.numbers
  pub links : (forwards : Table Awaited) → AreLinks old.desk.links forwards → HasPlace (opens_behind target validation old.desk.numbers) forwards
      → AreLinks new.desk.links (insert forwards (one_more old.desk.numbers.forward) (opens_behind target validation old.desk.numbers))
  pub keeps : DeskKeepsClients old.desk new.desk
  pub actions : new.actions ≡ old.actions ++ send_actions (one_more old.desk.numbers.forward) old.desk.numbers.moment None validation

-- its reply goes out, and behind that a request goes to the origin for the store alone
pub record SendsReplyThenBehind {S H : Type 0} (held : HeldExchange) (closes : Bool) (reply : Message ResponseHead) (validation : Message RequestHead) (old new : Reached S H) : Type 0 where
  pub numbers : new.desk.numbers ≡ sent (noted old.desk.numbers)
  pub clients : (connections : Table Connection) (k : Connection) → AreClients old.desk.clients connections → IsIdle held.client k
      → AreClients new.desk.clients (if closes then connections else insert connections held.exchange.connection k)
  pub links : (forwards : Table Awaited) → AreLinks old.desk.links forwards → HasPlace (opens_behind held.exchange.target validation old.desk.numbers) forwards
      → AreLinks new.desk.links (insert forwards (one_more old.desk.numbers.forward) (opens_behind held.exchange.target validation old.desk.numbers))
  pub exchanges : DeskKeepsExchanges old.desk new.desk
  pub keeps : DeskKeepsStore old.desk new.desk
  pub actions : new.actions
      ≡ old.actions
      ++ (reply_actions held.number old.desk.numbers.moment (is_head held.exchange.request.method) held.exchange.connection closes reply
      ++ send_actions (one_more old.desk.numbers.forward) old.desk.numbers.moment None validation)

abbrev pub SendsReplies : {S H : Type 0} → HeldExchange → Bool → Message ResponseHead → Option (Message RequestHead) → Reached S H → Reached S H → Type 0
SendsReplies held closes reply None old new = SendsReply held closes reply old new
SendsReplies held closes reply (Some validation) old new = SendsReplyThenBehind held closes reply validation old new

-- its request goes to the origin, and it awaits its reply on its connection
pub record SendsForward {S H : Type 0} (held : HeldExchange) (forward : Message RequestHead) (aim : Purpose) (old new : Reached S H) : Type 0 where
  pub numbers : new.desk.numbers ≡ sent old.desk.numbers
  pub clients : (connections : Table Connection) (k : Connection) → AreClients old.desk.clients connections → WillAwait held.client held.number k
      → AreClients new.desk.clients (insert connections held.exchange.connection k)
  pub exchanges : (table : Table OpenExchange) → AreExchanges old.desk.exchanges table
      → AreExchanges new.desk.exchanges (insert table held.number held.exchange)
  pub links : (forwards : Table Awaited) → AreLinks old.desk.links forwards
      → HasPlace (sent_forward forward.head held.exchange.target old.desk.numbers.moment aim) forwards
      → AreLinks new.desk.links (insert forwards (one_more old.desk.numbers.forward) (sent_forward forward.head held.exchange.target old.desk.numbers.moment aim))
  pub keeps : DeskKeepsStore old.desk new.desk
  pub actions : new.actions ≡ old.actions ++ send_actions (one_more old.desk.numbers.forward) old.desk.numbers.moment (exchange_for aim) forward

-- one that waits for the forward of that number
abbrev pub waiting_on : ℕ → OpenExchange → OpenExchange
waiting_on forward x = record { connection = x.connection; request = x.request; target = x.target; waits_for = Some forward }

-- its request waits for the forward of another one, and awaits its reply on its connection
pub record JoinsForward {S H : Type 0} (held : HeldExchange) (forward : ℕ) (old new : Desk S H) : Type 0 where
  pub numbers : DeskKeepsNumbers old new
  pub clients : (connections : Table Connection) (k : Connection) → AreClients old.clients connections → WillAwait held.client held.number k
      → AreClients new.clients (insert connections held.exchange.connection k)
  pub exchanges : (table : Table OpenExchange) → AreExchanges old.exchanges table
      → AreExchanges new.exchanges (insert table held.number (waiting_on forward held.exchange))
  pub links : DeskKeepsLinks old new
  pub keeps : DeskKeepsStore old new

-- how many octets are unread on a connection
abbrev pub unread_of : Option Client → ℕ
unread_of None = 0
unread_of (Some client) = length (unread client.reader)

abbrev pub unread_at : ℕ → BTreeMap ℕ Client → ℕ
unread_at c clients = unread_of (kept_at nat_cmp clients c)
