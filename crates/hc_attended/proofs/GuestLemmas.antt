-- What calls for guests, and for those who were turned away, leave noted.
use Rattle.std.proofs.Common.{◌≡◌, ℕ, ◌+◌, ◌≤◌, Bool, false, Option, Some, None, refl, sym, ap, ◌∙◌, true≢false}
use Rattle.std.specs.BTreeMap.{get}
use Rattle.std.specs.Option.{is_some}
use Rattle.std.specs.Ordering.{nat_cmp}
use Rattle.hc_agenda.specs.declared.agenda.Agenda.{Agenda}
use Rattle.hc_agenda.specs.declared.deadline.Timeout.{Timeout}
use Rattle.hc_agenda.specs.declared.deadline.Timeout.TheVariants as timeouts
use Rattle.hc_agenda.specs.Agendas.{ForgetsDeadlines, NotesDeadline}
use Rattle.hc_agenda.specs.Due.{same_timeout}
use Rattle.hc_peers.specs.declared.peers.Peers.{Peers}
use Rattle.hc_peers.specs.Guests.{is_guest}
use Rattle.hc_attended.specs.declared.times.TheConstants.{REFUSED_LINGERS}
use Rattle.hc_attended.specs.declared.times.Times.{Times}
use Rattle.hc_attended.specs.Attended.{IsAttended}
use Rattle.hc_attended.specs.Notes.{KeepsNotes, due_of, no_link}
use Rattle.hc_attended.specs.Tending.{ChangesGuest, ChangesTurnedAway}
use Rattle.hc_attended.proofs.NoteLemmas.{due_forgotten, due_given, due_moved, notes_same, notes_wider}
use Rattle.hc_attended.proofs.AttendedLemmas.{guest_changed, turned_away_changed}

none_at : {V A : Type 0} (o : Option V) (value : V) → is_some o ≡ false → o ≡ Some value → A
none_at o value none is = absurd (true≢false (sym (ap is_some is) ∙ none))

there_too : {V : Type 0} (before after : Option V) (value : V) → is_some after ≡ is_some before → after ≡ Some value → (kept : V) × (before ≡ Some kept)
there_too None after value same is = none_at after value same is
there_too (Some kept) after value same is = (kept, refl)

-- the same is noted, whatever may be moved
all_noted : (is_moved : Timeout → ℕ → Bool) (agenda : Agenda) → KeepsNotes no_link no_link is_moved agenda agenda
all_noted is_moved agenda = notes_wider (λ link apart. apart) (λ link apart. apart) (λ timeout m apart. refl) (notes_same agenda)

module _ {S : Type 0} (times : Times) (tick : ℕ) (before after : Peers S) (agenda agenda_after : Agenda) where
  -- ---- guests

  -- a guest has gone, and is due no more
  pub guest_gone : (n : ℕ) → ChangesGuest n before after → is_guest n after.guests ≡ false → ForgetsDeadlines (same_timeout timeouts.Guest) n agenda agenda_after
      → (agenda.refused ≡ false → IsAttended times tick before agenda) → agenda_after.refused ≡ false → IsAttended times tick after agenda_after
  guest_gone n only gone forgets was none =
      let notes = due_forgotten (same_timeout timeouts.Guest) n agenda agenda_after forgets in
      guest_changed times tick before after agenda agenda_after n only notes (λ guest is. none_at (get nat_cmp after.guests.table.links n) guest gone is) (was (notes.refused none))

  -- a guest may have changed, and is due in time
  pub guest_due : (n due : ℕ) → ChangesGuest n before after → NotesDeadline timeouts.Guest due n agenda agenda_after → due ≤ tick + times.patience.idle_timeout
      → (agenda.refused ≡ false → IsAttended times tick before agenda) → agenda_after.refused ≡ false → IsAttended times tick after agenda_after
  guest_due n due only notes early was none =
      let moved = due_moved timeouts.Guest due n agenda agenda_after notes in
      guest_changed times tick before after agenda agenda_after n only moved
      (λ guest is. due_given timeouts.Guest due n (tick + times.patience.idle_timeout) agenda agenda_after notes early none) (was (moved.refused none))

  -- ---- those who were turned away

  pub turned_away_gone : (n : ℕ) → ChangesTurnedAway n before after → is_some (get nat_cmp after.turned_away.links n) ≡ false
      → ForgetsDeadlines (same_timeout timeouts.TurnedAway) n agenda agenda_after
      → (agenda.refused ≡ false → IsAttended times tick before agenda) → agenda_after.refused ≡ false → IsAttended times tick after agenda_after
  turned_away_gone n only gone forgets was none =
      let notes = due_forgotten (same_timeout timeouts.TurnedAway) n agenda agenda_after forgets in
      turned_away_changed times tick before after agenda agenda_after n only notes (λ stream is. none_at (get nat_cmp after.turned_away.links n) stream gone is) (was (notes.refused none))

  pub turned_away_due : (n due : ℕ) → ChangesTurnedAway n before after → NotesDeadline timeouts.TurnedAway due n agenda agenda_after → due ≤ tick + REFUSED_LINGERS
      → (agenda.refused ≡ false → IsAttended times tick before agenda) → agenda_after.refused ≡ false → IsAttended times tick after agenda_after
  turned_away_due n due only notes early was none =
      let moved = due_moved timeouts.TurnedAway due n agenda agenda_after notes in
      turned_away_changed times tick before after agenda agenda_after n only moved
      (λ stream is. due_given timeouts.TurnedAway due n (tick + REFUSED_LINGERS) agenda agenda_after notes early none) (was (moved.refused none))

module _ {S : Type 0} (times : Times) (tick : ℕ) (before after : Peers S) (agenda : Agenda) where
  -- one who was turned away is there only where it was
  pub turned_away_kept : (n : ℕ) → ChangesTurnedAway n before after → is_some (get nat_cmp after.turned_away.links n) ≡ is_some (get nat_cmp before.turned_away.links n)
      → IsAttended times tick before agenda → IsAttended times tick after agenda
  turned_away_kept n only same was =
      turned_away_changed times tick before after agenda agenda n only (all_noted (due_of (same_timeout timeouts.TurnedAway) n) agenda) (λ stream is.
      let kept = there_too (get nat_cmp before.turned_away.links n) (get nat_cmp after.turned_away.links n) stream same is in was.turned_away n kept.0 kept.1) was

-- one that didn't become a guest is as before
pub guest_refused : {S : Type 0} (times : Times) (tick : ℕ) (before after : Peers S) (agenda : Agenda) (n : ℕ) → ChangesGuest n before after
    → get nat_cmp after.guests.table.links n ≡ get nat_cmp before.guests.table.links n → (agenda.refused ≡ false → IsAttended times tick before agenda) → agenda.refused ≡ false
    → IsAttended times tick after agenda
guest_refused times tick before after agenda n only same was none =
    guest_changed times tick before after agenda agenda n only (all_noted (due_of (same_timeout timeouts.Guest) n) agenda) (λ guest is. (was none).guests n guest (sym same ∙ is)) (was none)
