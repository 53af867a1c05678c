-- What stands where a crowd waits: nothing is left lying.
use Rattle.std.specs.Prelude.{◌≡◌, ◌+◌, ◌⊎◌, not, ℕ, Bool, true, false, [], None}
use Rattle.hc_flow.specs.Flows.{is_owed}
use Rattle.hc_agenda.specs.declared.agenda.Agenda.{Agenda}
use Rattle.hc_agenda.specs.declared.deadline.Timeout.TheVariants as timeouts
use Rattle.hc_agenda.specs.declared.places.Places.{Places}
use Rattle.hc_agenda.specs.Agendas.{owed_in}
use Rattle.hc_agenda.specs.Places.{IsFull, IsNext, NoPlaceIsLeftBehind, awaited_in, opened_in, unawaited_in}
use Rattle.hc_peers.specs.declared.client.Client.{Client}
use Rattle.hc_peers.specs.declared.forward.Reaching.{Reaching}
use Rattle.hc_peers.specs.declared.peers.Peers.{Peers}
use Rattle.hc_peers.specs.Forwards.{is_linked_and, is_opening}
use Rattle.hc_peers.specs.Knocks.{is_in}
use Rattle.hc_attended.specs.declared.times.Times.{Times}
use Rattle.hc_attended.specs.Attended.{IsAttended}
use Rattle.hc_attended.specs.Notes.{is_due_up_to}

-- whatever may go on at a link is noted, and no memory was refused for that; nothing is left that may have to be written; and each forward that was opened stands in line, where none may have a place
pub record IsSettled {S : Type 0} (times : Times) (tick : ℕ) (peers : Peers S) (agenda : Agenda) : Type 0 where
  pub attended : IsAttended times tick peers agenda
  pub noted : agenda.refused ≡ false
  pub written : owed_in agenda ≡ []
  pub sorted : opened_in peers.places ≡ []
  pub placed : IsNext peers.places None

-- ---- what follows

-- a client goes on by what others do alone: its link takes no octets, of which the world tells; or it brings none, of which the world tells; or it is open, and the cache's reply is awaited, or that it closes a connection that the client has ended
abbrev pub WaitsForOthers : {S : Type 0} → Client S → Type 0
WaitsForOthers client =
    ((is_owed client.flow ≡ true) × (client.flow.writable ≡ false))
    ⊎ (((is_owed client.flow ≡ false) × (client.flow.readable ≡ false))
    ⊎ ((client.closed ≡ false) × ((client.waits ≡ true) ⊎ (client.ended ≡ true))))

-- so does a forward that has a link: it isn't known to work yet, of which the world tells; or it brings none, of which the world tells; or the forward's end was told, and the cache closes it
abbrev pub LinkWaitsForOthers : {S : Type 0} → (ended : Bool) → Reaching S → Type 0
LinkWaitsForOthers ended reaching = (is_opening reaching ≡ true) ⊎ ((is_linked_and reaching (λ link. not link.flow.readable) ≡ true) ⊎ (ended ≡ true))

-- a forward stands in line for a place, where none is left for it, and waits no longer than it may
abbrev pub WaitsForPlace : ℕ → Times → (tick : ℕ) → Places → Agenda → Type 0
WaitsForPlace f times tick places agenda =
    (((is_in f (awaited_in places) ≡ true) × IsFull places) ⊎ ((is_in f (unawaited_in places) ≡ true) × NoPlaceIsLeftBehind places))
    × (is_due_up_to timeouts.Place f (tick + times.queue_timeout) agenda ≡ true)

-- what is owed there is lost, since the link has failed, which is told next; or the link isn't known to work yet, or takes none, of which the world tells
abbrev pub OwesInVain : {S : Type 0} → Reaching S → Type 0
OwesInVain reaching = (is_linked_and reaching (λ link. link.flow.failed) ≡ true) ⊎ ((is_opening reaching ≡ true) ⊎ (is_linked_and reaching (λ link. not link.flow.writable) ≡ true))
