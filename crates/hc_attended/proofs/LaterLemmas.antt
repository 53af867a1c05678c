-- Links are attended as time passes, and where one has a turn besides.
use Rattle.std.proofs.Common.{◌≡◌, ℕ, ◌+◌, ◌≤◌, ◌&&◌, Bool, true, false, max, option_map, refl, sym, ap, subst, ◌∙◌, arith}
use Rattle.std.specs.BTreeMap.{get}
use Rattle.std.specs.Ordering.{nat_cmp}
use Rattle.hc_order.specs.declared.receiver.Receiver.{Receiver}
use Rattle.hc_order.specs.declared.receiver.Receiver.TheVariants.{Client as to_client, Origin as to_origin}
use Rattle.hc_flow.specs.Paces.{next_look}
use Rattle.hc_flow.specs.declared.pace.Pace.{Pace}
use Rattle.hc_flow.specs.declared.patience.Patience.{Patience}
use Rattle.hc_agenda.specs.declared.agenda.Agenda.{Agenda}
use Rattle.hc_agenda.specs.declared.deadline.Timeout.TheVariants as timeouts
use Rattle.hc_agenda.specs.Agendas.{NotesTurns}
use Rattle.hc_agenda.specs.Places.{opened_in}
use Rattle.hc_agenda.specs.Turns.{before_all}
use Rattle.hc_peers.specs.declared.client.Client.{Client}
use Rattle.hc_peers.specs.declared.forward.Forward.{Forward}
use Rattle.hc_peers.specs.declared.peers.Peers.{Peers}
use Rattle.hc_peers.specs.Behind.{may_be_written_on}
use Rattle.hc_peers.specs.Forwards as forwards
use Rattle.hc_peers.specs.Knocks.{is_in}
use Rattle.hc_peers.specs.Known.{turned}
use Rattle.hc_attended.specs.declared.times.TheConstants.{CLIENT_LINGERS, LOOKS_AGAIN, ORIGIN_LINGERS, REFUSED_LINGERS}
use Rattle.hc_attended.specs.declared.times.Times.{Times}
use Rattle.hc_attended.specs.Attended.{ClientIsSeenTo, IsAttended}
use Rattle.hc_attended.specs.Notes.{KeepsNotes, is_due_up_to, is_noted_owed, no_deadline, no_link, stands_in_turn}
use Rattle.hc_attended.specs.Tending.{IsMarked, Stands, TurnsOnly, is_in_line}
use Rattle.hc_attended.proofs.AttendedLemmas.{client_changed}
use Rattle.hc_attended.proofs.ClientLemmas.{due_later, seen_in_turn}
use Rattle.hc_attended.proofs.ForwardLemmas.{calm_attended, in_time_by, marked_by, only_forward, seen_by}
use Rattle.hc_attended.proofs.NoteLemmas.{first_given, notes_wider}
use Rattle.hc_attended.proofs.StepLemmas.{none_moved}
use Rattle.hc_attended.proofs.StillLemmas.{or_kept, and_kept, or_left, still_due}
use Rattle.hc_attended.proofs.TendLemmas.{client_only, made_of}
use Rattle.hc_attended.proofs.TimedLemmas.{timed_turned}

-- ---- time passes

more : (tick later timeout : ℕ) → tick ≤ later → tick + timeout ≤ later + timeout
more tick later timeout passed = omega (arith, passed)

look_later : (pace : Pace) (tick later again : ℕ) (patience : Patience) → tick ≤ later → max (next_look pace tick patience) (tick + again) ≤ max (next_look pace later patience) (later + again)
look_later pace tick later again patience passed = omega (arith, passed)

same_answer : (b : Bool) → b ≡ true → b ≡ true
same_answer b is = is

pub attended_later : {S : Type 0} (times : Times) (tick later : ℕ) (peers : Peers S) (agenda : Agenda) → tick ≤ later → IsAttended times tick peers agenda → IsAttended times later peers agenda
attended_later times tick later peers agenda passed was = record {
  clients = λ n client there. let c = was.clients n client there in record {
    seen = record {
      written = c.seen.written;
      heard = c.seen.heard;
      lingers = λ closing.
          or_kept (is_noted_owed (to_client n) agenda) (is_due_up_to timeouts.ClientLingering n (tick + CLIENT_LINGERS) agenda)
          (is_noted_owed (to_client n) agenda) (is_due_up_to timeouts.ClientLingering n (later + CLIENT_LINGERS) agenda)
          (same_answer (is_noted_owed (to_client n) agenda)) (due_later timeouts.ClientLingering n (tick + CLIENT_LINGERS) (later + CLIENT_LINGERS) agenda (more tick later CLIENT_LINGERS passed)) (c.seen.lingers closing);
      queued = c.seen.queued;
    };
    due = due_later timeouts.Client n _ _ agenda (look_later client.pace tick later LOOKS_AGAIN times.patience passed) c.due;
  };
  forwards = λ f forward there. let w = was.forwards f forward there in record {
    seen = w.seen;
    timed = record {
      waits = λ is.
          or_kept (is_in f (opened_in peers.places)) (is_in_line f peers.places && is_due_up_to timeouts.Place f (tick + times.queue_timeout) agenda)
          (is_in f (opened_in peers.places)) (is_in_line f peers.places && is_due_up_to timeouts.Place f (later + times.queue_timeout) agenda)
          (same_answer (is_in f (opened_in peers.places)))
          (and_kept (is_in_line f peers.places) (is_due_up_to timeouts.Place f (tick + times.queue_timeout) agenda)
          (is_in_line f peers.places) (is_due_up_to timeouts.Place f (later + times.queue_timeout) agenda) (same_answer (is_in_line f peers.places))
          (due_later timeouts.Place f (tick + times.queue_timeout) (later + times.queue_timeout) agenda (more tick later times.queue_timeout passed))) (w.timed.waits is);
      opening = λ is. due_later timeouts.Connect f (tick + times.connect_timeout) (later + times.connect_timeout) agenda (more tick later times.connect_timeout passed) (w.timed.opening is);
      due = w.timed.due;
    };
  };
  lingering = λ f lingerer there. record {
    queued = (was.lingering f lingerer there).queued;
    due = due_later timeouts.OriginLingering f (tick + ORIGIN_LINGERS) (later + ORIGIN_LINGERS) agenda (more tick later ORIGIN_LINGERS passed) (was.lingering f lingerer there).due;
  };
  apart = was.apart;
  guests = λ n guest there. due_later timeouts.Guest n (tick + times.patience.idle_timeout) (later + times.patience.idle_timeout) agenda (more tick later times.patience.idle_timeout passed) (was.guests n guest there);
  turned_away = λ n stream there. due_later timeouts.TurnedAway n (tick + REFUSED_LINGERS) (later + REFUSED_LINGERS) agenda (more tick later REFUSED_LINGERS passed) (was.turned_away n stream there);
}

-- ---- a link has a turn

pub stands_first : {S : Type 0} (link : Receiver) (peers : Peers S) (agenda agenda_after : Agenda) → NotesTurns (before_all agenda.turns link) agenda agenda_after → agenda_after.refused ≡ false → Stands link peers agenda_after
stands_first (to_client n) peers agenda agenda_after notes none = λ client there. first_given (to_client n) agenda agenda_after notes none
stands_first (to_origin f) peers agenda agenda_after notes none = λ forward there. first_given (to_origin f) agenda agenda_after notes none

-- a link that has a turn is attended still, and so are all others
pub turn_attended_at : {S : Type 0} (link : Receiver) (times : Times) (tick : ℕ) (before after : Peers S) (agenda agenda_after : Agenda) → TurnsOnly link before after → KeepsNotes no_link no_link no_deadline agenda agenda_after
    → (agenda_after.refused ≡ false → IsMarked link before agenda → Stands link after agenda_after)
    → (agenda.refused ≡ false → IsAttended times tick before agenda) → agenda_after.refused ≡ false → IsAttended times tick after agenda_after
turn_attended_at {S} (to_client n) times tick before after agenda agenda_after turns notes stands was none =
    let all = was (notes.refused none) in
    let up = stands none (λ client there mark. (all.clients n client there).seen.queued mark) in
    client_changed times tick before after agenda agenda_after n (client_only n before after turns.1) (notes_wider (λ link apart. refl) (λ link apart. refl) (λ timeout m apart. refl) notes)
    (λ client there.
    let made = made_of (turned turns.0.0) (get nat_cmp before.clients.links n) (get nat_cmp after.clients.links n) client turns.0.1 there in
    record {
      seen = subst (ClientIsSeenTo n tick agenda_after) (sym made.2) (seen_in_turn n tick made.0 agenda agenda_after no_deadline notes turns.0.0 refl (up client there) (all.clients n made.0 made.1).seen);
      due = subst (λ (p : Pace). is_due_up_to timeouts.Client n (max (next_look p tick times.patience) (tick + LOOKS_AGAIN)) agenda_after ≡ true) (sym (ap (λ (c : Client S). c.pace) made.2))
          (still_due timeouts.Client n _ agenda agenda_after (notes.due timeouts.Client n refl) (all.clients n made.0 made.1).due);
    }) all
turn_attended_at {S} (to_origin f) times tick before after agenda agenda_after turns notes stands was none =
    calm_attended times tick before after agenda agenda_after f (only_forward f before after turns.1) (ap (λ (p : Peers S). p.lingering) turns.1.0)
    (λ gone. turns.0.1 ∙ ap (option_map (forwards.turned turns.0.0)) gone) (none_moved f notes)
    (λ ok all forward there.
    let made = made_of (forwards.turned turns.0.0) (get nat_cmp before.forwards.links f) (get nat_cmp after.forwards.links f) forward turns.0.1 there in
    let up = stands ok (marked_by f times tick before agenda all) forward there in
    record {
      written = λ may. notes.owed (to_origin f) refl ((seen_by f times tick before agenda all made.0 made.1).written (ap (λ (w : Forward S). may_be_written_on w.reaching) (sym made.2) ∙ may));
      heard = λ is. or_left (stands_in_turn (to_origin f) agenda_after) (is_noted_owed (to_origin f) agenda_after) up;
      queued = λ mark. up;
    })
    (λ ok all. timed_turned f turns.0.0 no_link no_link before after agenda agenda_after turns.0.1 turns.1 notes times tick (in_time_by f times tick before agenda all)) was none
