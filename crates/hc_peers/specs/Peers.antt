-- What the links of a crowd tell, all together. The newest move comes first.
use Rattle.std.specs.Prelude.{◌≡◌, ◌&&◌, ℕ, zero, suc, ◌+◌, ◌<◌, ◌≤◌, Bool, true, List, length, Option, Some, None, nat_lt, not, option_map}
use Rattle.std.specs.BTreeMap.{get}
use Rattle.std.specs.Ordering.{nat_cmp}
use Rattle.hc_agenda.specs.Places.{has_place, places_given, places_in_all}
use Rattle.hc_flow.specs.declared.outbox.Emptying.{Emptying}
use Rattle.hc_flow.specs.declared.readiness.Readiness.{Readiness}
use Rattle.hc_peers.specs.Guests.{AreGuests}
use Rattle.hc_peers.specs.Lingering.{is_lingering}
use Rattle.hc_peers.specs.Tables.{KeepsOthers, is_there_and}
use Rattle.hc_peers.specs.declared.turned_away.TheConstants.{MOST_TURNED_AWAY}
use Rattle.hc_order.specs.Log.{Move}
use Rattle.hc_order.specs.Mirrors.{closed_in, last_opened, opened_in}
use Rattle.hc_order.specs.declared.receiver.Receiver.{Receiver}
use Rattle.hc_order.specs.declared.receiver.Receiver.TheVariants.{Client as to_client, Origin as to_origin}
use Rattle.hc_flow.specs.Flows.{is_owed}
use Rattle.hc_flow.specs.Paces.{due, owing}
use Rattle.hc_flow.specs.declared.patience.Patience.{Patience}
use Rattle.hc_peers.specs.Hearings.{ClientFailsOnly}
use Rattle.hc_peers.specs.Known.{KeepsPace, PaceWritten, is_owed_at, known_at, pace_at, turned}
use Rattle.hc_peers.specs.Forwards as forwards
use Rattle.hc_peers.specs.Forwards.{AreForwards, ForwardFailsOnly, is_linked, is_linked_and, is_opening_at}
use Rattle.hc_peers.specs.Clients.{AreClients}
use Rattle.hc_peers.specs.declared.peers.Peers.{Peers}

-- the number that was given last, as a log has it: 0 is none
abbrev pub number_given : ℕ → Option ℕ
number_given zero = None
number_given (suc n) = Some (suc n)

-- the number that was given last: 0 is none
abbrev pub last_given : {S : Type 0} → Peers S → ℕ
last_given peers = peers.last

-- it is the next number that is given
abbrev pub IsNext : {S : Type 0} → Peers S → ℕ → Type 0
IsNext peers number = number ≡ peers.last + 1

-- there is room for the link of a further guest, where there are so many of clients and guests at once at most
abbrev pub HasRoom : {S : Type 0} → Peers S → ℕ → Type 0
HasRoom peers most = length peers.clients.links.entries + length peers.guests.table.links.entries < most

-- a further connection may be opened, where as many are open at once at most, and its link has room
abbrev pub MayOpen : {S : Type 0} → Peers S → ℕ → Type 0
MayOpen peers most = HasRoom peers most × (peers.connected < most)

-- whether there are fewer open connections and guests than that
abbrev pub has_fewer_open : {S : Type 0} → Peers S → ℕ → Bool
has_fewer_open peers most = nat_lt (peers.connected + length peers.guests.table.links.entries) most

-- how many links there may be at once: of clients and guests, and to the origin
pub data Bounds : Type 0 where
  AtMost : (clients origin : ℕ) → Bounds

abbrev pub most_clients : Bounds → ℕ
most_clients (AtMost clients origin) = clients

abbrev pub most_to_origin : Bounds → ℕ
most_to_origin (AtMost clients origin) = origin

-- there are no more links of guests than before, nor of those who were turned away
abbrev pub GainsNoGuest : {S : Type 0} → Peers S → Peers S → Type 0
GainsNoGuest before after =
    (length after.guests.table.links.entries ≤ length before.guests.table.links.entries) × (length after.turned_away.links.entries ≤ length before.turned_away.links.entries)

-- there are no more links than there may be: of clients and guests together, and of those who were turned away; and each to the origin, a forward's or one that lingers, has a place of its own, and no more places are given
pub record HasFewLinks {S : Type 0} (bounds : Bounds) (peers : Peers S) : Type 0 where
  pub clients : length peers.clients.links.entries + length peers.guests.table.links.entries ≤ most_clients bounds
  pub turned_away : length peers.turned_away.links.entries ≤ MOST_TURNED_AWAY
  pub places : places_in_all peers.places ≡ most_to_origin bounds
  pub given : places_given peers.places ≤ most_to_origin bounds
  pub linked : (f : ℕ) → is_linked f peers.forwards ≡ true → has_place f peers.places ≡ true
  pub lingering : (f : ℕ) → is_lingering f peers.lingering ≡ true → has_place f peers.places ≡ true
  pub apart : (f : ℕ) → is_linked f peers.forwards ≡ true → is_lingering f peers.lingering ≡ true → ⊥

-- what passed at all links is what the log says, of guests nothing was read, and to them nothing written; the connection that was opened last has the number that was given last, no more are open than are counted, and links are few
pub record ArePeers {S : Type 0} (has_given has_got : S → List ℕ → Type 0) (bounds : Bounds) (peers : Peers S) (log : List Move) : Type 0 where
  pub clients : AreClients has_given has_got peers.clients.links log
  pub forwards : AreForwards has_given has_got peers.forwards.links log
  pub guests : AreGuests has_given has_got peers.guests
  pub last : last_opened log ≡ number_given peers.last
  pub count : opened_in log ≤ peers.connected + closed_in log
  pub few : HasFewLinks bounds peers

-- no link is left: of a client, of a forward, of a guest, of one who was turned away, or one that lingers
pub record NoLinkIsLeft {S : Type 0} (peers : Peers S) : Type 0 where
  pub clients : length peers.clients.links.entries ≡ 0
  pub forwards : length peers.forwards.links.entries ≡ 0
  pub guests : length peers.guests.table.links.entries ≡ 0
  pub turned_away : length peers.turned_away.links.entries ≡ 0
  pub lingering : length peers.lingering.links.entries ≡ 0

-- whether a client is there whose time is over by that tick, unless a request of it awaits its reply
abbrev pub is_client_overdue : {S : Type 0} → Peers S → (number tick : ℕ) → Patience → Bool
is_client_overdue peers number tick patience = is_there_and (known_at number peers.clients.links) (λ client. nat_lt (due client.pace patience) tick)

-- ---- what a call that names a link leaves as it was

-- all other links of its kind, and all else
abbrev pub ChangesOnly : {S : Type 0} → Receiver → Peers S → Peers S → Type 0
ChangesOnly (to_client n) before after = (after ≡ record before { clients = after.clients }) × KeepsOthers n before.clients.links after.clients.links
ChangesOnly (to_origin f) before after = (after ≡ record before { forwards = after.forwards }) × KeepsOthers f before.forwards.links after.forwards.links

-- the same where octets are sent: a forward that is opened waits for a place
abbrev pub ChangesSent : {S : Type 0} → Receiver → Peers S → Peers S → Type 0
ChangesSent (to_client n) before after = ChangesOnly (to_client n) before after
ChangesSent (to_origin f) before after = (after ≡ record before { forwards = after.forwards; places = after.places }) × KeepsOthers f before.forwards.links after.forwards.links

-- whether the link that is named stands among the turns, and nothing else of it has changed
abbrev pub QueuesOf : {S : Type 0} → (queued : Bool) → Receiver → Peers S → Peers S → Type 0
QueuesOf queued (to_client n) before after = get nat_cmp after.clients.links n ≡ option_map (turned queued) (get nat_cmp before.clients.links n)
QueuesOf queued (to_origin f) before after = get nat_cmp after.forwards.links f ≡ option_map (forwards.turned queued) (get nat_cmp before.forwards.links f)

-- whether it didn't stand there, and is there
abbrev pub is_unqueued : {S : Type 0} → Receiver → Peers S → Bool
is_unqueued (to_client n) peers = is_there_and (get nat_cmp peers.clients.links n) (λ client. not client.queued)
is_unqueued (to_origin f) peers = is_there_and (get nat_cmp peers.forwards.links f) (λ forward. not forward.queued)

-- the link that is named has failed only where that was known before, where its stream has failed by now, or on that ground
abbrev pub FailsOnlyAt : {S : Type 0} → (S → Type 0) → (ground : Type 0) → Receiver → Peers S → Peers S → Type 0
FailsOnlyAt has_failed ground (to_client n) before after = ClientFailsOnly has_failed ground (known_at n before.clients.links) (known_at n after.clients.links)
FailsOnlyAt has_failed ground (to_origin f) before after = ForwardFailsOnly has_failed ground (get nat_cmp before.forwards.links f) (get nat_cmp after.forwards.links f)

-- whether what the system tells of a link fails it: of one to the origin that works, a failure is left to be read
abbrev pub is_failed_by : {S : Type 0} → Readiness → Receiver → Peers S → Bool
is_failed_by readiness (to_client n) peers = readiness.failed
is_failed_by readiness (to_origin f) peers = is_opening_at f peers.forwards.links && readiness.failed

-- how a client is getting on, and whether it was cut off
abbrev pub KeepsPaceOf : {S : Type 0} → Receiver → Peers S → Peers S → Type 0
KeepsPaceOf (to_client n) before after = KeepsPace n before.clients.links after.clients.links
KeepsPaceOf (to_origin f) before after = Unit {0}

-- a client to which octets were sent takes them from then on, or since before, and hasn't failed by that
abbrev pub SendsTo : {S : Type 0} → (S → Type 0) → Receiver → (tick : ℕ) → Peers S → Peers S → Type 0
SendsTo has_failed (to_client n) tick before after =
    (pace_at n after.clients.links ≡ option_map (owing (is_owed_at n after.clients.links) tick) (pace_at n before.clients.links))
    × FailsOnlyAt has_failed ⊥ (to_client n) before after
SendsTo has_failed (to_origin f) tick before after = Unit {0}

-- a client gets on by what it took of what was owed to it
abbrev pub PacesWritten : {S : Type 0} → Option Emptying → Receiver → (tick : ℕ) → Peers S → Peers S → Type 0
PacesWritten result (to_client n) tick before after = PaceWritten result n tick before.clients.links after.clients.links
PacesWritten result (to_origin f) tick before after = Unit {0}

-- whether octets wait to be written to that link
abbrev pub is_owed_to : {S : Type 0} → Receiver → Peers S → Bool
is_owed_to (to_client n) peers = is_owed_at n peers.clients.links
is_owed_to (to_origin f) peers = is_there_and (get nat_cmp peers.forwards.links f) (λ forward. is_linked_and forward.reaching (λ link. is_owed link.flow))

-- whether a read of it may bring something now
abbrev pub is_readable_at : {S : Type 0} → Receiver → Peers S → Bool
is_readable_at (to_client n) peers = is_there_and (get nat_cmp peers.clients.links n) (λ client. client.flow.readable)
is_readable_at (to_origin f) peers = is_there_and (get nat_cmp peers.forwards.links f) (λ forward. is_linked_and forward.reaching (λ link. link.flow.readable))
