-- Requests that have waited for a forward, once that has ended.
use Rattle.std.specs.Prelude.{◌≡◌, ℕ, List, ◌++◌, map, Option, Some, None}
use Rattle.hc_head.specs.declared.head.RequestHead.{RequestHead}
use Rattle.hc_framing.specs.declared.message.Message.{Message}
use Rattle.hc_update.specs.declared.stored.Stored.{Stored}
use Rattle.hc_service.specs.declared.cases.Cause.TheVariants.{UriMiss}
use Rattle.hc_service.specs.declared.open.ForwardKind.TheVariants.{Joinable}
use Rattle.hc_service.specs.declared.open.Purpose.TheVariants as purpose
use Rattle.hc_service.specs.Choices.{Finds}
use Rattle.hc_service.specs.Joining.{shared, waiting_for}
use Rattle.hc_service.specs.Reactions.{forward_alone}
use Rattle.hc_service.specs.Replying.{collapsed_reply}
use Rattle.hc_service.specs.Serves.{Takes, Turn, Run, ReadsOnAll, connections_of, listed}
use Rattle.hc_service.specs.Serves.Turn.{Releasing}
use Rattle.hc_service.specs.State.{State}
use Rattle.hc_service.specs.Turns.{released}
use Rattle.hc_core.specs.declared.answering.HeldExchange.{HeldExchange}
use Rattle.hc_core.specs.declared.desk.Desk.{Desk}
use Rattle.hc_core.specs.Ending.{AsksFor, is_last, wanted_of}
use Rattle.hc_core.specs.Reading.{RepliesTo}
use Rattle.hc_core.specs.Waiting.{AllAwait, CanRelease, IsWaiting, connection_of}
use Rattle.hc_core.specs.Standing.{Adds, DeskKeepsHoldings, DeskStandsFor, Reached, Start}

-- ---- one that was taken out

abbrev pub request_alone : {S H : Type 0} → Desk S H → HeldExchange → Message RequestHead
request_alone desk held = forward_alone desk.name held.exchange.target held.exchange.request

-- its request goes to the origin by a forward of its own, and it waits no more
abbrev pub AsksAlone : {S H : Type 0} → HeldExchange → Reached S H → Reached S H → Type 0
AsksAlone held old new =
    AsksFor held (released held.exchange) (request_alone old.desk held) (purpose.Reply held.number UriMiss Joinable) old new

-- and nothing else changes
pub record SendsAlone {S H : Type 0} (held : HeldExchange) (old new : Reached S H) : Type 0 where
  pub asks : AsksAlone held old new
  pub store : DeskKeepsHoldings old.desk new.desk

-- it gets its reply of a stored response that is shared, or a forward of its own
abbrev pub ReleasesHeld : {S H : Type 0} → Option Stored → HeldExchange → Reached S H → Reached S H → Type 0
ReleasesHeld (Some stored) held old new = RepliesTo held (is_last old.desk.numbers held) (collapsed_reply (wanted_of old.desk held) stored) old new
ReleasesHeld None held old new = AsksAlone held old new

-- the store is asked
pub record GivesReleased {S H : Type 0} (held : HeldExchange) (old new : Reached S H) : Type 0 where
  pub chosen : Option Stored
  pub finds : Finds held.exchange.target held.exchange.request.fields old.desk.store chosen new.desk.store
  pub does : ReleasesHeld (shared old.desk.numbers.moment chosen) held old new

-- ---- releases

-- one is released, and its connection is added to some
pub record GivesRelease {S H : Type 0} (start : Start) (e : ℕ) (before after : List ℕ) (reached : Reached S H) : Type 0 where
  pub state : State
  pub stands : DeskStandsFor start.settings reached.desk state
  pub takes : IsWaiting e start.state → AllAwait start.state
      → Adds start.actions reached.actions (λ added. Takes start.settings (Releasing e) start.state added state) × (after ≡ before ++ listed (connection_of e start.state))

-- the same of some, one after another
pub record GivesReleases {S H : Type 0} (start : Start) (numbers before after : List ℕ) (reached : Reached S H) : Type 0 where
  pub state : State
  pub stands : DeskStandsFor start.settings reached.desk state
  pub runs : CanRelease numbers start.state
      → Adds start.actions reached.actions (λ added. Run start.settings (map Releasing numbers) start.state added state)
      × (after ≡ before ++ connections_of start.state.exchanges numbers)

-- those that waited for the forward are released, and then connections are read, of which the first is told
pub record GivesFinish {S H : Type 0} (start : Start) (f : ℕ) (client : Option ℕ) (reached : Reached S H) : Type 0 where
  pub state : State
  pub stands : DeskStandsFor start.settings reached.desk state
  pub readings : List Turn
  pub does : CanRelease (waiting_for f start.state.exchanges) start.state
      → Adds start.actions reached.actions (λ added. Run start.settings (map Releasing (waiting_for f start.state.exchanges) ++ readings) start.state added state)
      × ReadsOnAll (listed client ++ connections_of start.state.exchanges (waiting_for f start.state.exchanges)) readings state
