-- What calls do at one link, and what they leave of all others.
use Rattle.std.specs.Prelude.{◌≡◌, ◌+◌, ◌||◌, ℕ, Bool, true, false, Some, max}
use Rattle.std.specs.BTreeMap.{get, is_at as is_key}
use Rattle.std.specs.Ordering.{nat_cmp}
use Rattle.hc_order.specs.declared.receiver.Receiver.{Receiver}
use Rattle.hc_order.specs.declared.receiver.Receiver.TheVariants.{Client as to_client, Origin as to_origin}
use Rattle.hc_order.specs.Passages.{is_at}
use Rattle.hc_flow.specs.Paces.{forward_due, next_look}
use Rattle.hc_flow.specs.declared.progress.ForwardProgress.{ForwardProgress}
use Rattle.hc_agenda.specs.declared.agenda.Agenda.{Agenda}
use Rattle.hc_agenda.specs.declared.deadline.Timeout.TheVariants as timeouts
use Rattle.hc_agenda.specs.declared.places.Places.{Places}
use Rattle.hc_agenda.specs.Deadlines.{is_of_client}
use Rattle.hc_agenda.specs.Places.{KeepsLines, awaited_in, opened_in, unawaited_in}
use Rattle.hc_peers.specs.declared.client.Client.{Client}
use Rattle.hc_peers.specs.declared.forward.Forward.{Forward}
use Rattle.hc_peers.specs.declared.lingerer.Lingerer.{Lingerer}
use Rattle.hc_peers.specs.declared.peers.Peers.{Peers}
use Rattle.hc_peers.specs.Knocks.{is_in}
use Rattle.hc_peers.specs.Lingering.{is_lingering}
use Rattle.hc_peers.specs.Peers.{ChangesOnly, QueuesOf}
use Rattle.hc_peers.specs.Tables.{KeepsOthers}
use Rattle.hc_attended.specs.declared.times.TheConstants.{CLIENT_LINGERS, LOOKS_AGAIN}
use Rattle.hc_attended.specs.declared.times.Times.{Times}
use Rattle.hc_attended.specs.Attended.{ClientIsSeenTo, ForwardIsSeenTo, IsForwardTimed, IsLingererAttended}
use Rattle.hc_attended.specs.Overdue.{progress_of}
use Rattle.hc_attended.specs.Notes.{KeepsNotes, due_of, is_due_up_to, is_noted_owed, is_of_link, no_link, stands_in_turn}

-- ---- one client

-- where a client is marked so, it stands among the turns
abbrev pub IsClientMarked : {S : Type 0} → ℕ → Peers S → Agenda → Type 0
IsClientMarked {S} n peers agenda = (client : Client S) → get nat_cmp peers.clients.links n ≡ Some client → client.queued ≡ true → stands_in_turn (to_client n) agenda ≡ true

-- it is looked at by the time that its own is over, or a second after it was looked at last
abbrev pub IsClientTimed : {S : Type 0} → ℕ → Times → (tick : ℕ) → Peers S → Agenda → Type 0
IsClientTimed {S} n times tick peers agenda = (client : Client S) → get nat_cmp peers.clients.links n ≡ Some client
    → is_due_up_to timeouts.Client n (max (next_look client.pace tick times.patience) (tick + LOOKS_AGAIN)) agenda ≡ true

-- whatever may go on at its link is noted
abbrev pub IsClientSeenTo : {S : Type 0} → (n tick : ℕ) → Peers S → Agenda → Type 0
IsClientSeenTo {S} n tick peers agenda = (client : Client S) → get nat_cmp peers.clients.links n ≡ Some client → ClientIsSeenTo n tick agenda client

-- at most one client has changed, and what is counted of connections
pub record ChangesClient {S : Type 0} (n : ℕ) (before after : Peers S) : Type 0 where
  pub clients : KeepsOthers n before.clients.links after.clients.links
  pub forwards : after.forwards ≡ before.forwards
  pub guests : after.guests ≡ before.guests
  pub turned_away : after.turned_away ≡ before.turned_away
  pub places : after.places ≡ before.places
  pub lingering : after.lingering ≡ before.lingering

-- something was done with a client: all others are as before, and so is what is noted of them; it is marked rightly, and looked at in time, where it was
pub record TendsClient {S : Type 0} (n : ℕ) (times : Times) (tick : ℕ) (before after : Peers S) (agenda_before agenda_after : Agenda) : Type 0 where
  pub only : ChangesClient n before after
  pub notes : KeepsNotes (is_at (to_client n)) (is_at (to_client n)) (due_of is_of_client n) agenda_before agenda_after
  pub marked : agenda_after.refused ≡ false → IsClientMarked n before agenda_before → IsClientMarked n after agenda_after
  pub timed : agenda_after.refused ≡ false → IsClientTimed n times tick before agenda_before → IsClientTimed n times tick after agenda_after

-- ---- one forward

-- where a forward is marked so, it stands among the turns
abbrev pub IsForwardMarked : {S : Type 0} → ℕ → Peers S → Agenda → Type 0
IsForwardMarked {S} f peers agenda = (forward : Forward S) → get nat_cmp peers.forwards.links f ≡ Some forward → forward.queued ≡ true → stands_in_turn (to_origin f) agenda ≡ true

-- it takes no longer for what it does now than it may
abbrev pub IsForwardInTime : {S : Type 0} → ℕ → Times → (tick : ℕ) → Peers S → Agenda → Type 0
IsForwardInTime {S} f times tick peers agenda = (forward : Forward S) → get nat_cmp peers.forwards.links f ≡ Some forward → IsForwardTimed f times tick peers.places agenda forward

-- where it has a link, it is looked at once its time is over
abbrev pub IsForwardWatched : {S : Type 0} → ℕ → Times → Peers S → Agenda → Type 0
IsForwardWatched f times peers agenda = (progress : ForwardProgress) → progress_of f peers ≡ Some progress → is_due_up_to timeouts.Origin f (forward_due progress times.patience + 1) agenda ≡ true

-- whatever may go on at its link is noted
abbrev pub IsForwardSeenTo : {S : Type 0} → ℕ → Peers S → Agenda → Type 0
IsForwardSeenTo {S} f peers agenda = (forward : Forward S) → get nat_cmp peers.forwards.links f ≡ Some forward → ForwardIsSeenTo f agenda forward

-- whether a forward stands in line for a place
abbrev pub is_in_line : ℕ → Places → Bool
is_in_line f places = is_in f (awaited_in places) || is_in f (unawaited_in places)

-- all forwards but one stand in line still, or take their place there next
pub record KeepsInLine (f : ℕ) (before after : Places) : Type 0 where
  pub opened : (g : ℕ) → is_key (nat_cmp f) g ≡ false → is_in g (opened_in before) ≡ true → is_in g (opened_in after) ≡ true
  pub in_line : (g : ℕ) → is_key (nat_cmp f) g ≡ false → is_in_line g before ≡ true → is_in_line g after ≡ true

-- at most one forward has changed, or its link that lingers, and places
pub record ChangesForward {S : Type 0} (f : ℕ) (before after : Peers S) : Type 0 where
  pub clients : after.clients ≡ before.clients
  pub guests : after.guests ≡ before.guests
  pub turned_away : after.turned_away ≡ before.turned_away
  pub forwards : KeepsOthers f before.forwards.links after.forwards.links
  pub lingering : KeepsOthers f before.lingering.links after.lingering.links
  pub lines : KeepsInLine f before.places after.places

-- something was done with a forward: all others are as before, and so is what is noted of them; it is marked rightly where it was
pub record TendsForward {S : Type 0} (f : ℕ) (before after : Peers S) (agenda_before agenda_after : Agenda) : Type 0 where
  pub only : ChangesForward f before after
  pub notes : KeepsNotes (is_at (to_origin f)) (is_at (to_origin f)) (due_of is_of_link f) agenda_before agenda_after
  pub marked : agenda_after.refused ≡ false → IsForwardMarked f before agenda_before → IsForwardMarked f after agenda_after

-- ---- any link

-- where a link is marked so, it stands among the turns
abbrev pub IsMarked : {S : Type 0} → Receiver → Peers S → Agenda → Type 0
IsMarked (to_client n) peers agenda = IsClientMarked n peers agenda
IsMarked (to_origin f) peers agenda = IsForwardMarked f peers agenda

-- where a link is there, it stands among the turns
abbrev pub Stands : {S : Type 0} → Receiver → Peers S → Agenda → Type 0
Stands {S} (to_client n) peers agenda = (client : Client S) → get nat_cmp peers.clients.links n ≡ Some client → stands_in_turn (to_client n) agenda ≡ true
Stands {S} (to_origin f) peers agenda = (forward : Forward S) → get nat_cmp peers.forwards.links f ≡ Some forward → stands_in_turn (to_origin f) agenda ≡ true

-- at most whether a link stands among the turns has changed
abbrev pub TurnsOnly : {S : Type 0} → Receiver → Peers S → Peers S → Type 0
TurnsOnly link before after = ((queued : Bool) × QueuesOf queued link before after) × ChangesOnly link before after

-- a client's link goes in time, unless something may have to be written there
abbrev pub LingersInTime : (n tick : ℕ) → Agenda → Type 0
LingersInTime n tick agenda = (is_noted_owed (to_client n) agenda || is_due_up_to timeouts.ClientLingering n (tick + CLIENT_LINGERS) agenda) ≡ true

-- ---- links that linger

-- where one lingers, it stands among the turns where it is marked so, and goes in time
abbrev pub IsLingeringAttended : {S : Type 0} → (f tick : ℕ) → Peers S → Agenda → Type 0
IsLingeringAttended {S} f tick peers agenda = (lingerer : Lingerer S) → get nat_cmp peers.lingering.links f ≡ Some lingerer → IsLingererAttended f tick agenda lingerer

-- where one is marked so, it stands among the turns
abbrev pub IsLingeringMarked : {S : Type 0} → ℕ → Peers S → Agenda → Type 0
IsLingeringMarked {S} f peers agenda = (lingerer : Lingerer S) → get nat_cmp peers.lingering.links f ≡ Some lingerer → lingerer.queued ≡ true → stands_in_turn (to_origin f) agenda ≡ true

-- at most one of them has changed
abbrev pub ChangesLingering : {S : Type 0} → ℕ → Peers S → Peers S → Type 0
ChangesLingering f before after = (after ≡ record before { lingering = after.lingering }) × KeepsOthers f before.lingering.links after.lingering.links

-- a place may be free now, that of a forward that isn't there, and whose link doesn't linger: it is due for nothing any more
pub record IsFreed {S : Type 0} (f : ℕ) (before after : Peers S) (agenda_before agenda_after : Agenda) : Type 0 where
  pub only : after ≡ record before { places = after.places }
  pub lines : KeepsLines before.places after.places
  pub notes : KeepsNotes no_link no_link (due_of is_of_link f) agenda_before agenda_after
  pub there : (forward : Forward S) → get nat_cmp before.forwards.links f ≡ Some forward → agenda_after ≡ agenda_before
  pub lingers : (lingerer : Lingerer S) → get nat_cmp before.lingering.links f ≡ Some lingerer → agenda_after ≡ agenda_before

-- ---- what is sent

-- octets may be sent to a client, since it is noted that something may have to be written there; and a forward may be opened, of which no link lingers
abbrev pub IsReadyFor : {S : Type 0} → Receiver → Peers S → Agenda → Type 0
IsReadyFor (to_client n) peers agenda = is_noted_owed (to_client n) agenda ≡ true
IsReadyFor (to_origin f) peers agenda = is_lingering f peers.lingering ≡ false

-- ---- guests, and those who were turned away

-- at most one guest has changed
abbrev pub ChangesGuest : {S : Type 0} → ℕ → Peers S → Peers S → Type 0
ChangesGuest n before after = (after ≡ record before { guests = after.guests }) × KeepsOthers n before.guests.table.links after.guests.table.links

-- at most one who was turned away has changed
abbrev pub ChangesTurnedAway : {S : Type 0} → ℕ → Peers S → Peers S → Type 0
ChangesTurnedAway n before after = (after ≡ record before { turned_away = after.turned_away }) × KeepsOthers n before.turned_away.links after.turned_away.links
