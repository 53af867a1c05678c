-- What is attended stays so, where what is noted of it is kept.
use Rattle.std.proofs.Common.{◌≡◌, ℕ, ◌+◌, ◌||◌, ◌&&◌, Bool, true, false, max, refl, sym, ap, subst, ◌∙◌, ⊎_elim}
use Rattle.hc_order.specs.declared.receiver.Receiver.{Receiver}
use Rattle.hc_order.specs.declared.receiver.Receiver.TheVariants.{Client as to_client, Origin as to_origin}
use Rattle.hc_flow.specs.Paces.{forward_due, next_look}
use Rattle.hc_agenda.specs.declared.agenda.Agenda.{Agenda}
use Rattle.hc_agenda.specs.declared.deadline.Timeout.{Timeout}
use Rattle.hc_agenda.specs.declared.deadline.Timeout.TheVariants as timeouts
use Rattle.hc_agenda.specs.declared.places.Places.{Places}
use Rattle.hc_agenda.specs.Deadlines.{deadline_at, has_come}
use Rattle.hc_agenda.specs.Places.{opened_in}
use Rattle.hc_peers.specs.declared.client.Client.{Client}
use Rattle.hc_peers.specs.declared.forward.Forward.{Forward}
use Rattle.hc_peers.specs.declared.lingerer.Lingerer.{Lingerer}
use Rattle.hc_peers.specs.Knocks.{is_in}
use Rattle.hc_attended.specs.declared.times.TheConstants.{CLIENT_LINGERS, LOOKS_AGAIN, ORIGIN_LINGERS}
use Rattle.hc_attended.specs.declared.times.Times.{Times}
use Rattle.hc_attended.specs.Attended.{IsClientAttended, IsForwardAttended, IsForwardTimed, IsLingererAttended, waits_for_place}
use Rattle.hc_attended.specs.Notes.{KeepsNotes, is_due_up_to, is_noted_owed, is_seen_to, stands_in_turn}
use Rattle.hc_attended.specs.Tending.{is_in_line}
use Rattle.hc_attended.proofs.NoteLemmas.{or_cases}

-- ---- answers

pub or_left : (a b : Bool) → a ≡ true → (a || b) ≡ true
or_left true b is = refl
or_left false b is = absurd (cc)

pub or_right : (a b : Bool) → b ≡ true → (a || b) ≡ true
or_right true b is = refl
or_right false b is = is

pub or_kept : (a b c d : Bool) → (a ≡ true → c ≡ true) → (b ≡ true → d ≡ true) → (a || b) ≡ true → (c || d) ≡ true
or_kept a b c d one other is = ⊎_elim (λ here. or_left c d (one here)) (λ there. or_right c d (other there)) (or_cases a b is)

pub and_kept : (a b c d : Bool) → (a ≡ true → c ≡ true) → (b ≡ true → d ≡ true) → (a && b) ≡ true → (c && d) ≡ true
and_kept true true c d one other is = subst (λ x. (x && d) ≡ true) (sym (one refl)) (other refl)
and_kept true false c d one other is = absurd (cc)
and_kept false b c d one other is = absurd (cc)

-- ---- what is noted

-- a deadline that stays where it was
pub still_due : (timeout : Timeout) (n latest : ℕ) (before after : Agenda) → deadline_at timeout n after.deadlines ≡ deadline_at timeout n before.deadlines
    → is_due_up_to timeout n latest before ≡ true → is_due_up_to timeout n latest after ≡ true
still_due timeout n latest before after same is = ap (λ o. has_come o latest) same ∙ is

module _ {t o : Receiver → Bool} {d : Timeout → ℕ → Bool} {before after : Agenda} (notes : KeepsNotes t o d before after) where
  pub still_seen : (link : Receiver) → t link ≡ false → o link ≡ false → is_seen_to link before ≡ true → is_seen_to link after ≡ true
  still_seen link turn owed =
      or_kept (stands_in_turn link before) (is_noted_owed link before) (stands_in_turn link after) (is_noted_owed link after) (notes.turns link turn) (notes.owed link owed)

  due_by : (timeout : Timeout) (n latest : ℕ) → d timeout n ≡ false → is_due_up_to timeout n latest before ≡ true → is_due_up_to timeout n latest after ≡ true
  due_by timeout n latest apart = still_due timeout n latest before after (notes.due timeout n apart)

  pub waits_still : (f tick : ℕ) (times : Times) (places places_after : Places) → d timeouts.Place f ≡ false
      → (is_in f (opened_in places) ≡ true → is_in f (opened_in places_after) ≡ true) → (is_in_line f places ≡ true → is_in_line f places_after ≡ true)
      → waits_for_place f times tick places before ≡ true → waits_for_place f times tick places_after after ≡ true
  waits_still f tick times places places_after apart opened in_line =
      or_kept (is_in f (opened_in places)) (is_in_line f places && is_due_up_to timeouts.Place f (tick + times.queue_timeout) before)
      (is_in f (opened_in places_after)) (is_in_line f places_after && is_due_up_to timeouts.Place f (tick + times.queue_timeout) after)
      opened
      (and_kept (is_in_line f places) (is_due_up_to timeouts.Place f (tick + times.queue_timeout) before)
      (is_in_line f places_after) (is_due_up_to timeouts.Place f (tick + times.queue_timeout) after) in_line (due_by timeouts.Place f (tick + times.queue_timeout) apart))

  module _ {S : Type 0} where
    pub client_still : (n tick : ℕ) (times : Times) (client : Client S) → t (to_client n) ≡ false → o (to_client n) ≡ false → d timeouts.Client n ≡ false → d timeouts.ClientLingering n ≡ false
        → IsClientAttended n times tick before client → IsClientAttended n times tick after client
    client_still n tick times client turn owed looks lingers was = record {
      seen = record {
        written = λ may. notes.owed (to_client n) owed (was.seen.written may);
        heard = λ is. still_seen (to_client n) turn owed (was.seen.heard is);
        lingers = λ closing.
            or_kept (is_noted_owed (to_client n) before) (is_due_up_to timeouts.ClientLingering n (tick + CLIENT_LINGERS) before)
            (is_noted_owed (to_client n) after) (is_due_up_to timeouts.ClientLingering n (tick + CLIENT_LINGERS) after)
            (notes.owed (to_client n) owed) (due_by timeouts.ClientLingering n (tick + CLIENT_LINGERS) lingers) (was.seen.lingers closing);
        queued = λ mark. notes.turns (to_client n) turn (was.seen.queued mark);
      };
      due = due_by timeouts.Client n (max (next_look client.pace tick times.patience) (tick + LOOKS_AGAIN)) looks was.due;
    }

    pub timed_still : (f tick : ℕ) (times : Times) (places places_after : Places) (forward : Forward S) → d timeouts.Place f ≡ false → d timeouts.Connect f ≡ false → d timeouts.Origin f ≡ false
        → (is_in f (opened_in places) ≡ true → is_in f (opened_in places_after) ≡ true) → (is_in_line f places ≡ true → is_in_line f places_after ≡ true)
        → IsForwardTimed f times tick places before forward → IsForwardTimed f times tick places_after after forward
    timed_still f tick times places places_after forward place connect origin opened in_line was = record {
      waits = λ is. waits_still f tick times places places_after place opened in_line (was.waits is);
      opening = λ is. due_by timeouts.Connect f (tick + times.connect_timeout) connect (was.opening is);
      due = λ progress is. due_by timeouts.Origin f (forward_due progress times.patience + 1) origin (was.due progress is);
    }

    pub forward_still : (f tick : ℕ) (times : Times) (places places_after : Places) (forward : Forward S) → t (to_origin f) ≡ false → o (to_origin f) ≡ false
        → d timeouts.Place f ≡ false → d timeouts.Connect f ≡ false → d timeouts.Origin f ≡ false
        → (is_in f (opened_in places) ≡ true → is_in f (opened_in places_after) ≡ true) → (is_in_line f places ≡ true → is_in_line f places_after ≡ true)
        → IsForwardAttended f times tick places before forward → IsForwardAttended f times tick places_after after forward
    forward_still f tick times places places_after forward turn owed place connect origin opened in_line was = record {
      seen = record {
        written = λ may. notes.owed (to_origin f) owed (was.seen.written may);
        heard = λ is. still_seen (to_origin f) turn owed (was.seen.heard is);
        queued = λ mark. notes.turns (to_origin f) turn (was.seen.queued mark);
      };
      timed = timed_still f tick times places places_after forward place connect origin opened in_line was.timed;
    }

    pub lingerer_still : (f tick : ℕ) (lingerer : Lingerer S) → t (to_origin f) ≡ false → d timeouts.OriginLingering f ≡ false
        → IsLingererAttended f tick before lingerer → IsLingererAttended f tick after lingerer
    lingerer_still f tick lingerer turn apart was = record {
      queued = λ mark. notes.turns (to_origin f) turn (was.queued mark);
      due = due_by timeouts.OriginLingering f (tick + ORIGIN_LINGERS) apart was.due;
    }
