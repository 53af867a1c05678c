-- Whatever may go on at a link is noted.
use Rattle.std.specs.Prelude.{◌≡◌, ◌+◌, ◌&&◌, ◌||◌, ℕ, Bool, true, Some, None, max}
use Rattle.std.specs.BTreeMap.{get}
use Rattle.std.specs.Ordering.{nat_cmp}
use Rattle.hc_order.specs.declared.receiver.Receiver.TheVariants.{Client as to_client, Origin as to_origin}
use Rattle.hc_flow.specs.Flows.{may_be_written}
use Rattle.hc_flow.specs.Paces.{forward_due, next_look}
use Rattle.hc_flow.specs.declared.progress.ForwardProgress.{ForwardProgress}
use Rattle.hc_agenda.specs.declared.agenda.Agenda.{Agenda}
use Rattle.hc_agenda.specs.declared.deadline.Timeout.TheVariants as timeouts
use Rattle.hc_agenda.specs.declared.places.Places.{Places}
use Rattle.hc_agenda.specs.Places.{awaited_in, opened_in, unawaited_in}
use Rattle.hc_peers.specs.declared.client.Client.{Client}
use Rattle.hc_peers.specs.declared.forward.Forward.{Forward}
use Rattle.hc_peers.specs.declared.guests.Guest.{Guest}
use Rattle.hc_peers.specs.declared.lingerer.Lingerer.{Lingerer}
use Rattle.hc_peers.specs.declared.peers.Peers.{Peers}
use Rattle.hc_peers.specs.Behind.{is_client_heard, is_closing, is_forward_heard, may_be_written_on}
use Rattle.hc_peers.specs.Knocks.{is_in}
use Rattle.hc_peers.specs.Forwards.{is_opening, is_waiting, progress_at}
use Rattle.hc_attended.specs.declared.times.TheConstants.{CLIENT_LINGERS, LOOKS_AGAIN, ORIGIN_LINGERS, REFUSED_LINGERS}
use Rattle.hc_attended.specs.declared.times.Times.{Times}
use Rattle.hc_attended.specs.Notes.{is_due_up_to, is_noted_owed, is_seen_to, stands_in_turn}

-- ---- clients

-- what may go on at a client's link is noted: octets wait only where they are taken in their turn or can't be now; where something is to be heard, it is heard next; and where its connection is closed, and all was written, its link goes in time
pub record ClientIsSeenTo {S : Type 0} (n tick : ℕ) (agenda : Agenda) (client : Client S) : Type 0 where
  pub written : may_be_written client.flow ≡ true → is_noted_owed (to_client n) agenda ≡ true
  pub heard : is_client_heard client ≡ true → is_seen_to (to_client n) agenda ≡ true
  pub lingers : is_closing client ≡ true → (is_noted_owed (to_client n) agenda || is_due_up_to timeouts.ClientLingering n (tick + CLIENT_LINGERS) agenda) ≡ true
  -- where it is marked so, it stands among the turns
  pub queued : client.queued ≡ true → stands_in_turn (to_client n) agenda ≡ true

-- and however it gets on, it is looked at by the time that it is over, or a second after it was looked at last
pub record IsClientAttended {S : Type 0} (n : ℕ) (times : Times) (tick : ℕ) (agenda : Agenda) (client : Client S) : Type 0 where
  pub seen : ClientIsSeenTo n tick agenda client
  pub due : is_due_up_to timeouts.Client n (max (next_look client.pace tick times.patience) (tick + LOOKS_AGAIN)) agenda ≡ true

-- ---- forwards

-- what may go on at a forward's link is noted
pub record ForwardIsSeenTo {S : Type 0} (f : ℕ) (agenda : Agenda) (forward : Forward S) : Type 0 where
  pub written : may_be_written_on forward.reaching ≡ true → is_noted_owed (to_origin f) agenda ≡ true
  pub heard : is_forward_heard forward ≡ true → is_seen_to (to_origin f) agenda ≡ true
  -- where it is marked so, it stands among the turns
  pub queued : forward.queued ≡ true → stands_in_turn (to_origin f) agenda ≡ true

-- whether a forward was opened and takes its place in line next, or stands there and waits no longer than it may
abbrev pub waits_for_place : ℕ → Times → (tick : ℕ) → Places → Agenda → Bool
waits_for_place f times tick places agenda =
    is_in f (opened_in places) || ((is_in f (awaited_in places) || is_in f (unawaited_in places)) && is_due_up_to timeouts.Place f (tick + times.queue_timeout) agenda)

-- how long a forward may take for what it does now
pub record IsForwardTimed {S : Type 0} (f : ℕ) (times : Times) (tick : ℕ) (places : Places) (agenda : Agenda) (forward : Forward S) : Type 0 where
  -- where it waits for a link, it stands in line
  pub waits : is_waiting forward.reaching ≡ true → waits_for_place f times tick places agenda ≡ true
  -- where its link isn't known to work yet, that is made in time
  pub opening : is_opening forward.reaching ≡ true → is_due_up_to timeouts.Connect f (tick + times.connect_timeout) agenda ≡ true
  -- where it has a link, it is looked at once its time is over
  pub due : (progress : ForwardProgress) → progress_at forward.reaching ≡ Some progress → is_due_up_to timeouts.Origin f (forward_due progress times.patience + 1) agenda ≡ true

pub record IsForwardAttended {S : Type 0} (f : ℕ) (times : Times) (tick : ℕ) (places : Places) (agenda : Agenda) (forward : Forward S) : Type 0 where
  pub seen : ForwardIsSeenTo f agenda forward
  pub timed : IsForwardTimed f times tick places agenda forward

-- ---- others

-- a link to the origin that lingers stands among the turns where it is marked so, and goes in time
pub record IsLingererAttended {S : Type 0} (f tick : ℕ) (agenda : Agenda) (lingerer : Lingerer S) : Type 0 where
  pub queued : lingerer.queued ≡ true → stands_in_turn (to_origin f) agenda ≡ true
  pub due : is_due_up_to timeouts.OriginLingering f (tick + ORIGIN_LINGERS) agenda ≡ true

-- ---- all links

-- whatever may go on at any link is noted, and each is looked at, or goes, in time
pub record IsAttended {S : Type 0} (times : Times) (tick : ℕ) (peers : Peers S) (agenda : Agenda) : Type 0 where
  pub clients : (n : ℕ) (client : Client S) → get nat_cmp peers.clients.links n ≡ Some client → IsClientAttended n times tick agenda client
  pub forwards : (f : ℕ) (forward : Forward S) → get nat_cmp peers.forwards.links f ≡ Some forward → IsForwardAttended f times tick peers.places agenda forward
  pub lingering : (f : ℕ) (lingerer : Lingerer S) → get nat_cmp peers.lingering.links f ≡ Some lingerer → IsLingererAttended f tick agenda lingerer
  -- no link lingers of a forward that is there
  pub apart : (f : ℕ) (lingerer : Lingerer S) → get nat_cmp peers.lingering.links f ≡ Some lingerer → get nat_cmp peers.forwards.links f ≡ None
  -- each guest goes in time, unless it has become a client by then
  pub guests : (n : ℕ) (guest : Guest S) → get nat_cmp peers.guests.table.links n ≡ Some guest → is_due_up_to timeouts.Guest n (tick + times.patience.idle_timeout) agenda ≡ true
  -- and so does each who was turned away
  pub turned_away : (n : ℕ) (stream : S) → get nat_cmp peers.turned_away.links n ≡ Some stream → is_due_up_to timeouts.TurnedAway n (tick + REFUSED_LINGERS) agenda ≡ true
