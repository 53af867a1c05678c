-- All links are attended behind what is done with a forward.
use Rattle.std.proofs.Common.{◌≡◌, ◌+◌, ℕ, Bool, true, false, None, Result, refl, sym, ap, ◌∙◌, option_map}
use Rattle.std.specs.declared.alloc.AllocError.{AllocError}
use Rattle.std.specs.BTreeMap.{get}
use Rattle.std.specs.Ordering.{nat_cmp}
use Rattle.hc_flow.specs.declared.heard.Heard.{Heard}
use Rattle.hc_order.specs.declared.receiver.Receiver.TheVariants.{Origin as to_origin}
use Rattle.hc_order.specs.Passages.{is_at}
use Rattle.hc_agenda.specs.declared.agenda.Agenda.{Agenda}
use Rattle.hc_agenda.specs.declared.deadline.Timeout.TheVariants as timeouts
use Rattle.hc_agenda.specs.Deadlines.{is_of_forward}
use Rattle.hc_agenda.specs.Due.{same_timeout}
use Rattle.hc_agenda.specs.Places.{KeepsLines}
use Rattle.hc_peers.specs.Behind.{Behind, ForwardGoesBy, ForwardRetries, can_retry}
use Rattle.hc_peers.specs.declared.peers.Peers.{Peers}
use Rattle.hc_peers.specs.Forwards.{is_opening_at, is_waiting_at, turned}
use Rattle.hc_peers.specs.Lingering.{is_lingering}
use Rattle.hc_peers.specs.Peers.{ChangesOnly, QueuesOf}
use Rattle.hc_attended.specs.declared.times.Times.{Times}
use Rattle.hc_attended.specs.Attended.{IsAttended}
use Rattle.hc_attended.specs.Notes.{KeepsNotes, due_of, is_due_up_to, no_deadline, no_link}
use Rattle.hc_attended.specs.Tending.{IsForwardInTime, IsForwardMarked, IsForwardSeenTo, IsForwardWatched, IsFreed, KeepsInLine, TurnsOnly, is_in_line}
use Rattle.hc_attended.proofs.ForwardLemmas.{calm_attended, changed_then, connect_less, in_time_by, link_less, marked_by, nothing_changed, notes_due, only_forward, only_places, origin_less, place_less, seen_by, seen_still, turn_attended}
use Rattle.hc_attended.proofs.LineLemmas.{kept_lines}
use Rattle.hc_attended.proofs.NoteLemmas.{notes_same, notes_then, notes_wider}
use Rattle.hc_attended.proofs.TendLemmas.{forward_changes_then}
use Rattle.hc_attended.proofs.TimedLemmas.{can_retry_still, lines_timed, timed_freed, timed_heard, timed_joined, timed_not_opening, timed_not_waiting, timed_turned, timed_watched, unmarked_freed, unmarked_heard, unmarked_retried, unmarked_rightly, unmarked_turned}

-- where no deadline moves, none of others does
pub none_moved : (f : ℕ) {agenda agenda_after : Agenda} → KeepsNotes no_link no_link no_deadline agenda agenda_after → KeepsNotes no_link no_link (due_of is_of_forward f) agenda agenda_after
none_moved f notes = notes_due (λ timeout n apart. refl) notes

pub places_then : {S : Type 0} (before between after : Peers S) → between ≡ record before { places = between.places } → after ≡ record between { places = after.places } → after ≡ record before { places = after.places }
places_then {S} before between after one other = other ∙ ap (λ (p : Peers S). record p { places = after.places }) one

module _ {S : Type 0} (times : Times) (tick : ℕ) (f : ℕ) where
  -- a forward that waits for no link stands in line no more
  pub skipped_attended : (before after : Peers S) (agenda : Agenda) → after ≡ record before { places = after.places } → KeepsInLine f before.places after.places → is_waiting_at f before.forwards.links ≡ false
      → (agenda.refused ≡ false → IsAttended times tick before agenda) → agenda.refused ≡ false → IsAttended times tick after agenda
  skipped_attended before after agenda rest lines gone =
      let same = ap (λ (p : Peers S). get nat_cmp p.forwards.links f) rest in
      calm_attended times tick before after agenda agenda f (only_places f before after rest lines) (ap (λ (p : Peers S). p.lingering) rest) (λ none. same ∙ none) (none_moved f (notes_same agenda))
      (λ ok all. seen_still f no_deadline before after agenda agenda same (notes_same agenda) (seen_by f times tick before agenda all))
      (λ ok all. timed_not_waiting f before after agenda agenda same gone (notes_due (λ timeout n apart. refl) (notes_same agenda)) times tick (in_time_by f times tick before agenda all))

  -- a forward stands in line from now on
  pub joined_attended : (before after : Peers S) (agenda agenda_after : Agenda) → after ≡ record before { places = after.places } → KeepsInLine f before.places after.places
      → is_in_line f after.places ≡ true → KeepsNotes no_link no_link (due_of (same_timeout timeouts.Place) f) agenda agenda_after
      → (agenda_after.refused ≡ false → is_due_up_to timeouts.Place f (tick + times.queue_timeout) agenda_after ≡ true)
      → (agenda.refused ≡ false → IsAttended times tick before agenda) → agenda_after.refused ≡ false → IsAttended times tick after agenda_after
  joined_attended before after agenda agenda_after rest lines in_line notes due =
      let same = ap (λ (p : Peers S). get nat_cmp p.forwards.links f) rest in
      calm_attended times tick before after agenda agenda_after f (only_places f before after rest lines) (ap (λ (p : Peers S). p.lingering) rest) (λ none. same ∙ none) (notes_due (place_less f) notes)
      (λ ok all. seen_still f (due_of (same_timeout timeouts.Place) f) before after agenda agenda_after same notes (seen_by f times tick before agenda all))
      (λ ok all. timed_joined f before after agenda agenda_after same in_line notes times tick (due ok) (in_time_by f times tick before agenda all))

  -- only notes change of a forward
  noted_attended : (peers : Peers S) (agenda agenda_after : Agenda) → KeepsNotes no_link no_link (due_of is_of_forward f) agenda agenda_after
      → (agenda_after.refused ≡ false → IsForwardInTime f times tick peers agenda → IsForwardInTime f times tick peers agenda_after)
      → (agenda.refused ≡ false → IsAttended times tick peers agenda) → agenda_after.refused ≡ false → IsAttended times tick peers agenda_after
  noted_attended peers agenda agenda_after notes timed =
      calm_attended times tick peers peers agenda agenda_after f (nothing_changed f peers) refl (λ none. none) notes
      (λ ok all. seen_still f (due_of is_of_forward f) peers peers agenda agenda_after refl notes (seen_by f times tick peers agenda all))
      (λ ok all. timed ok (in_time_by f times tick peers agenda all))

  pub waits_no_more : (peers : Peers S) (agenda agenda_after : Agenda) → is_waiting_at f peers.forwards.links ≡ false → KeepsNotes no_link no_link (due_of (same_timeout timeouts.Place) f) agenda agenda_after
      → (agenda.refused ≡ false → IsAttended times tick peers agenda) → agenda_after.refused ≡ false → IsAttended times tick peers agenda_after
  waits_no_more peers agenda agenda_after none notes =
      noted_attended peers agenda agenda_after (notes_due (place_less f) notes) (λ ok. timed_not_waiting f peers peers agenda agenda_after refl none notes times tick)

  pub opens_no_more : (peers : Peers S) (agenda agenda_after : Agenda) → is_opening_at f peers.forwards.links ≡ false → KeepsNotes no_link no_link (due_of (same_timeout timeouts.Connect) f) agenda agenda_after
      → (agenda.refused ≡ false → IsAttended times tick peers agenda) → agenda_after.refused ≡ false → IsAttended times tick peers agenda_after
  opens_no_more peers agenda agenda_after none notes =
      noted_attended peers agenda agenda_after (notes_due (connect_less f) notes) (λ ok. timed_not_opening f peers peers agenda agenda_after refl none refl notes times tick)

  pub watched_attended : (peers : Peers S) (agenda agenda_after : Agenda) → KeepsNotes no_link no_link (due_of (same_timeout timeouts.Origin) f) agenda agenda_after
      → (agenda_after.refused ≡ false → IsForwardWatched f times peers agenda_after)
      → (agenda.refused ≡ false → IsAttended times tick peers agenda) → agenda_after.refused ≡ false → IsAttended times tick peers agenda_after
  watched_attended peers agenda agenda_after notes watched =
      noted_attended peers agenda agenda_after (notes_due (origin_less f) notes) (λ ok. timed_watched f peers peers agenda agenda_after refl refl notes times tick (watched ok))

  -- places have changed, and notes of a forward, which is then seen to
  pub calls_attended : (before between after : Peers S) (agenda mid agenda_after : Agenda) → between ≡ record before { places = between.places } → KeepsInLine f before.places between.places
      → KeepsNotes no_link no_link (due_of is_of_forward f) agenda mid → ChangesOnly (to_origin f) between after
      → (get nat_cmp between.forwards.links f ≡ None → get nat_cmp after.forwards.links f ≡ None) → KeepsNotes no_link no_link (due_of is_of_forward f) mid agenda_after
      → (agenda_after.refused ≡ false → IsForwardMarked f between mid → IsForwardSeenTo f after agenda_after)
      → (agenda_after.refused ≡ false → IsForwardInTime f times tick after agenda_after)
      → (agenda.refused ≡ false → IsAttended times tick before agenda) → agenda_after.refused ≡ false → IsAttended times tick after agenda_after
  calls_attended before between after agenda mid agenda_after rest lines notes only absent later seen timed =
      let same = ap (λ (p : Peers S). get nat_cmp p.forwards.links f) rest in
      calm_attended times tick before after agenda agenda_after f (changed_then f before between after (only_places f before between rest lines) (only_forward f between after only))
      (ap (λ (p : Peers S). p.lingering) only.0 ∙ ap (λ (p : Peers S). p.lingering) rest) (λ none. absent (same ∙ none)) (notes_then notes later)
      (λ ok all. seen ok (λ forward is mark. notes.turns (to_origin f) refl (marked_by f times tick before agenda all forward (sym same ∙ is) mark)))
      (λ ok all. timed ok)

  -- a forward was changed and seen to
  pub call_attended : (before after : Peers S) (agenda mid agenda_after : Agenda) → KeepsNotes no_link no_link (due_of is_of_forward f) agenda mid → ChangesOnly (to_origin f) before after
      → (get nat_cmp before.forwards.links f ≡ None → get nat_cmp after.forwards.links f ≡ None) → KeepsNotes no_link no_link (due_of is_of_forward f) mid agenda_after
      → (agenda_after.refused ≡ false → IsForwardMarked f before mid → IsForwardSeenTo f after agenda_after)
      → (agenda_after.refused ≡ false → IsForwardInTime f times tick after agenda_after)
      → (agenda.refused ≡ false → IsAttended times tick before agenda) → agenda_after.refused ≡ false → IsAttended times tick after agenda_after
  call_attended before after agenda mid agenda_after notes only absent later seen timed =
      calm_attended times tick before after agenda agenda_after f (only_forward f before after only) (ap (λ (p : Peers S). p.lingering) only.0) absent (notes_then notes later)
      (λ ok all. seen ok (λ forward is mark. notes.turns (to_origin f) refl (marked_by f times tick before agenda all forward is mark)))
      (λ ok all. timed ok)

  -- others stand in line as before
  pub lines_attended : (before after : Peers S) (agenda : Agenda) → after ≡ record before { places = after.places } → KeepsLines before.places after.places
      → (agenda.refused ≡ false → IsAttended times tick before agenda) → agenda.refused ≡ false → IsAttended times tick after agenda
  lines_attended before after agenda rest lines =
      let same = ap (λ (p : Peers S). get nat_cmp p.forwards.links f) rest in
      calm_attended times tick before after agenda agenda f (only_places f before after rest (kept_lines f before.places after.places lines)) (ap (λ (p : Peers S). p.lingering) rest) (λ none. same ∙ none)
      (none_moved f (notes_same agenda))
      (λ ok all. seen_still f no_deadline before after agenda agenda same (notes_same agenda) (seen_by f times tick before agenda all))
      (λ ok all forward is. lines_timed f tick times before.places after.places agenda forward lines (in_time_by f times tick before agenda all forward (sym same ∙ is)))

  turned_absent : (before after : Peers S) → TurnsOnly (to_origin f) before after → get nat_cmp before.forwards.links f ≡ None → get nat_cmp after.forwards.links f ≡ None
  turned_absent before after turns none = turns.0.1 ∙ ap (option_map (turned turns.0.0)) none

  -- something is told of its link, and it is seen to
  pub learned_attended : (before between after : Peers S) (agenda mid agenda_after : Agenda) → ChangesOnly (to_origin f) before between
      → (get nat_cmp before.forwards.links f ≡ None → get nat_cmp between.forwards.links f ≡ None) → KeepsNotes no_link no_link no_deadline agenda mid
      → (mid.refused ≡ false → IsForwardMarked f before agenda → IsForwardMarked f between mid)
      → (IsForwardInTime f times tick before agenda → IsForwardInTime f times tick between mid)
      → TurnsOnly (to_origin f) between after → KeepsNotes no_link no_link no_deadline mid agenda_after
      → (agenda_after.refused ≡ false → IsForwardMarked f between mid → IsForwardSeenTo f after agenda_after)
      → (agenda.refused ≡ false → IsAttended times tick before agenda) → agenda_after.refused ≡ false → IsAttended times tick after agenda_after
  learned_attended before between after agenda mid agenda_after only absent notes marked timed turns later seen =
      let changes = forward_changes_then f before between after only turns.1 in
      calm_attended times tick before after agenda agenda_after f (only_forward f before after changes) (ap (λ (p : Peers S). p.lingering) changes.0)
      (λ none. turned_absent between after turns (absent none)) (none_moved f (notes_then notes later))
      (λ ok all. seen ok (marked (later.refused ok) (marked_by f times tick before agenda all)))
      (λ ok all. timed_turned f turns.0.0 no_link no_link between after mid agenda_after turns.0.1 turns.1 later times tick (timed (in_time_by f times tick before agenda all)))

  -- ---- turns

  -- it had its turn, something was heard of it, and it is seen to
  pub heard_attended : (result : Result Heard AllocError) (now : ℕ) (p0 p1 p2 p3 p4 : Peers S) (a0 a1 a2 a3 a4 : Agenda) → is_lingering f p0.lingering ≡ false
      → QueuesOf false (to_origin f) p0 p1 → ChangesOnly (to_origin f) p0 p1 → KeepsNotes (is_at (to_origin f)) no_link no_deadline a0 a1
      → ChangesOnly (to_origin f) p1 p2 → ForwardGoesBy result now (get nat_cmp p1.forwards.links f) (get nat_cmp p2.forwards.links f)
      → KeepsNotes no_link no_link (due_of (same_timeout timeouts.Origin) f) a1 a2 → (a2.refused ≡ false → IsForwardWatched f times p2 a2)
      → IsFreed f p2 p3 a2 a3
      → TurnsOnly (to_origin f) p3 p4 → KeepsNotes no_link no_link no_deadline a3 a4 → (a4.refused ≡ false → IsForwardMarked f p3 a3 → IsForwardSeenTo f p4 a4)
      → (a0.refused ≡ false → IsAttended times tick p0 a0) → a4.refused ≡ false → IsAttended times tick p4 a4
  heard_attended result now p0 p1 p2 p3 p4 a0 a1 a2 a3 a4 none_lingers begins begun turn only behind notes watched freed turns later seen =
      let heard = forward_changes_then f p0 p1 p2 begun only in
      let free = only_places f p2 p3 freed.only (kept_lines f p2.places p3.places freed.lines) in
      let unmarked = unmarked_freed f p2 p3 a2 a3 freed (unmarked_heard f result now p1 p2 behind (unmarked_turned f p0 p1 begins)) in
      turn_attended times tick p0 p4 a0 a4 f (changed_then f p0 p2 p4 (only_forward f p0 p2 heard) (changed_then f p2 p3 p4 free (only_forward f p3 p4 turns.1)))
      (ap (λ (p : Peers S). p.lingering) turns.1.0 ∙ (ap (λ (p : Peers S). p.lingering) freed.only ∙ ap (λ (p : Peers S). p.lingering) heard.0)) none_lingers
      (notes_then (notes_wider (λ link apart. apart) (λ link apart. refl) (λ timeout n apart. refl) turn)
      (notes_then (notes_wider (λ link apart. refl) (λ link apart. refl) (λ timeout n apart. origin_less f timeout n (link_less f timeout n apart)) notes)
      (notes_then (notes_wider (λ link apart. refl) (λ link apart. refl) (λ timeout n apart. apart) freed.notes) (notes_wider (λ link apart. refl) (λ link apart. refl) (λ timeout n apart. refl) later))))
      (λ ok all. seen ok (unmarked_rightly f p3 a3 unmarked))
      (λ ok all.
      timed_turned f turns.0.0 no_link no_link p3 p4 a3 a4 turns.0.1 turns.1 later times tick
      (timed_freed f p2 p3 a2 a3 freed times tick
      (timed_heard f result now p1 p2 a1 a2 only behind notes times tick (watched (freed.notes.refused (later.refused ok)))
      (timed_turned f false (is_at (to_origin f)) no_link p0 p1 a0 a1 begins begun turn times tick (in_time_by f times tick p0 a0 all)))))

  -- it had its turn, and gets another link
  pub retried_attended : (retries : Bool) (p0 p1 p2 p3 : Peers S) (a0 a1 a3 : Agenda) → is_lingering f p0.lingering ≡ false → can_retry f p0 ≡ true
      → QueuesOf false (to_origin f) p0 p1 → ChangesOnly (to_origin f) p0 p1 → KeepsNotes (is_at (to_origin f)) no_link no_deadline a0 a1
      → retries ≡ can_retry f p1 → (retries ≡ true → is_waiting_at f p2.forwards.links ≡ true) → ChangesOnly (to_origin f) p1 p2
      → Behind (ForwardRetries retries) (get nat_cmp p1.forwards.links f) (get nat_cmp p2.forwards.links f)
      → ChangesOnly (to_origin f) p2 p3 → KeepsNotes no_link no_link (due_of is_of_forward f) a1 a3 → (a3.refused ≡ false → IsForwardMarked f p2 a1 → IsForwardSeenTo f p3 a3)
      → (a3.refused ≡ false → is_waiting_at f p2.forwards.links ≡ true → IsForwardInTime f times tick p3 a3)
      → (a0.refused ≡ false → IsAttended times tick p0 a0) → a3.refused ≡ false → IsAttended times tick p3 a3
  retried_attended retries p0 p1 p2 p3 a0 a1 a3 none_lingers can begins begun turn retry waits only behind links notes seen timed =
      let changes = forward_changes_then f p0 p2 p3 (forward_changes_then f p0 p1 p2 begun only) links in
      turn_attended times tick p0 p3 a0 a3 f (only_forward f p0 p3 changes) (ap (λ (p : Peers S). p.lingering) changes.0) none_lingers
      (notes_then (notes_wider (λ link apart. apart) (λ link apart. refl) (λ timeout n apart. refl) turn) (notes_wider (λ link apart. refl) (λ link apart. refl) (link_less f) notes))
      (λ ok all. seen ok (unmarked_rightly f p2 a1 (unmarked_retried f retries p1 p2 behind (unmarked_turned f p0 p1 begins))))
      (λ ok all. timed ok (waits (retry ∙ can_retry_still f false p0 p1 begins can)))
