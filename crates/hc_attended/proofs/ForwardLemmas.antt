-- What is done with a forward, step by step.
use Rattle.std.proofs.Common.{◌≡◌, ℕ, ◌==◌, ◌||◌, ◌&&◌, Bool, true, false, Some, None, refl, sym, ap, subst, ◌∙◌, is_some}
use Rattle.std.specs.BTreeMap.{get}
use Rattle.std.specs.Ordering.{nat_cmp}
use Rattle.hc_order.specs.declared.receiver.Receiver.TheVariants.{Origin as to_origin}
use Rattle.hc_order.specs.Passages.{is_at}
use Rattle.hc_agenda.specs.declared.agenda.Agenda.{Agenda}
use Rattle.hc_agenda.specs.declared.deadline.Timeout.{Timeout}
use Rattle.hc_agenda.specs.declared.deadline.Timeout.TheVariants as timeouts
use Rattle.hc_agenda.specs.Deadlines.{is_of_forward}
use Rattle.hc_agenda.specs.Due.{same_timeout}
use Rattle.hc_peers.specs.declared.forward.Forward.{Forward}
use Rattle.hc_peers.specs.declared.lingerer.Lingerer.{Lingerer}
use Rattle.hc_peers.specs.declared.peers.Peers.{Peers}
use Rattle.hc_peers.specs.Lingering.{is_lingering}
use Rattle.hc_peers.specs.Peers.{ChangesOnly}
use Rattle.hc_attended.specs.declared.times.Times.{Times}
use Rattle.hc_attended.specs.Attended.{IsAttended}
use Rattle.hc_attended.specs.Notes.{KeepsNotes, due_of, is_of_link, no_link}
use Rattle.hc_attended.specs.Tending.{ChangesForward, ChangesLingering, IsForwardInTime, IsForwardMarked, IsForwardSeenTo, IsLingeringAttended, KeepsInLine}
use Rattle.hc_attended.proofs.AttendedLemmas.{forward_changed}
use Rattle.hc_attended.proofs.LineLemmas.{lines_then, same_lines}
use Rattle.hc_attended.proofs.NoteLemmas.{notes_wider}
use Rattle.hc_attended.proofs.StillLemmas.{lingerer_still, or_left, or_right, still_seen}

-- ---- deadlines of a forward

less : (a c b : Bool) → (a ≡ true → c ≡ true) → (c && b) ≡ false → (a && b) ≡ false
less true c b more apart = subst (λ x. (x && b) ≡ false) (more refl) apart
less false c b more apart = refl

pub link_less : (f : ℕ) (timeout : Timeout) (m : ℕ) → due_of is_of_link f timeout m ≡ false → due_of is_of_forward f timeout m ≡ false
link_less f timeout m = less (is_of_forward timeout) (is_of_link timeout) (f == m) (or_left (is_of_forward timeout) (same_timeout timeouts.OriginLingering timeout))

pub lingering_less : (f : ℕ) (timeout : Timeout) (m : ℕ) → due_of is_of_link f timeout m ≡ false → due_of (same_timeout timeouts.OriginLingering) f timeout m ≡ false
lingering_less f timeout m = less (same_timeout timeouts.OriginLingering timeout) (is_of_link timeout) (f == m) (or_right (is_of_forward timeout) (same_timeout timeouts.OriginLingering timeout))

pub place_less : (f : ℕ) (timeout : Timeout) (m : ℕ) → due_of is_of_forward f timeout m ≡ false → due_of (same_timeout timeouts.Place) f timeout m ≡ false
place_less f timeout m = less (same_timeout timeouts.Place timeout) (is_of_forward timeout) (f == m) (or_left (same_timeout timeouts.Place timeout) (same_timeout timeouts.Connect timeout || same_timeout timeouts.Origin timeout))

pub connect_less : (f : ℕ) (timeout : Timeout) (m : ℕ) → due_of is_of_forward f timeout m ≡ false → due_of (same_timeout timeouts.Connect) f timeout m ≡ false
connect_less f timeout m = less (same_timeout timeouts.Connect timeout) (is_of_forward timeout) (f == m)
    (λ is. or_right (same_timeout timeouts.Place timeout) (same_timeout timeouts.Connect timeout || same_timeout timeouts.Origin timeout) (or_left (same_timeout timeouts.Connect timeout) (same_timeout timeouts.Origin timeout) is))

pub origin_less : (f : ℕ) (timeout : Timeout) (m : ℕ) → due_of is_of_forward f timeout m ≡ false → due_of (same_timeout timeouts.Origin) f timeout m ≡ false
origin_less f timeout m = less (same_timeout timeouts.Origin timeout) (is_of_forward timeout) (f == m)
    (λ is. or_right (same_timeout timeouts.Place timeout) (same_timeout timeouts.Connect timeout || same_timeout timeouts.Origin timeout) (or_right (same_timeout timeouts.Connect timeout) (same_timeout timeouts.Origin timeout) is))

module _ {d d' : Timeout → ℕ → Bool} {before after : Agenda} where
  -- more deadlines may move
  pub notes_due : ((timeout : Timeout) (n : ℕ) → d' timeout n ≡ false → d timeout n ≡ false) → KeepsNotes no_link no_link d before after → KeepsNotes no_link no_link d' before after
  notes_due due kept = notes_wider (λ link apart. refl) (λ link apart. refl) due kept

-- ---- what has changed

module _ {S : Type 0} where
  pub only_forward : (f : ℕ) (before after : Peers S) → ChangesOnly (to_origin f) before after → ChangesForward f before after
  only_forward f before after only = record {
    clients = ap (λ (p : Peers S). p.clients) only.0;
    guests = ap (λ (p : Peers S). p.guests) only.0;
    turned_away = ap (λ (p : Peers S). p.turned_away) only.0;
    forwards = only.1;
    lingering = λ g differ. ap (λ (p : Peers S). get nat_cmp p.lingering.links g) only.0;
    lines = subst (λ places. KeepsInLine f before.places places) (sym (ap (λ (p : Peers S). p.places) only.0)) (same_lines f before.places);
  }

  pub only_places : (f : ℕ) (before after : Peers S) → after ≡ record before { places = after.places } → KeepsInLine f before.places after.places → ChangesForward f before after
  only_places f before after only lines = record {
    clients = ap (λ (p : Peers S). p.clients) only;
    guests = ap (λ (p : Peers S). p.guests) only;
    turned_away = ap (λ (p : Peers S). p.turned_away) only;
    forwards = λ g differ. ap (λ (p : Peers S). get nat_cmp p.forwards.links g) only;
    lingering = λ g differ. ap (λ (p : Peers S). get nat_cmp p.lingering.links g) only;
    lines = lines;
  }

  pub only_lingering : (f : ℕ) (before after : Peers S) → ChangesLingering f before after → ChangesForward f before after
  only_lingering f before after only = record {
    clients = ap (λ (p : Peers S). p.clients) only.0;
    guests = ap (λ (p : Peers S). p.guests) only.0;
    turned_away = ap (λ (p : Peers S). p.turned_away) only.0;
    forwards = λ g differ. ap (λ (p : Peers S). get nat_cmp p.forwards.links g) only.0;
    lingering = only.1;
    lines = subst (λ places. KeepsInLine f before.places places) (sym (ap (λ (p : Peers S). p.places) only.0)) (same_lines f before.places);
  }

  pub nothing_changed : (f : ℕ) (peers : Peers S) → ChangesForward f peers peers
  nothing_changed f peers = record {
    clients = refl;
    guests = refl;
    turned_away = refl;
    forwards = λ g differ. refl;
    lingering = λ g differ. refl;
    lines = same_lines f peers.places;
  }

  pub changed_then : (f : ℕ) (before between after : Peers S) → ChangesForward f before between → ChangesForward f between after → ChangesForward f before after
  changed_then f before between after one other = record {
    clients = other.clients ∙ one.clients;
    guests = other.guests ∙ one.guests;
    turned_away = other.turned_away ∙ one.turned_away;
    forwards = λ g differ. other.forwards g differ ∙ one.forwards g differ;
    lingering = λ g differ. other.lingering g differ ∙ one.lingering g differ;
    lines = lines_then f before.places between.places after.places one.lines other.lines;
  }

  -- ---- a forward that is as before

  pub seen_still : (f : ℕ) (d : Timeout → ℕ → Bool) (before after : Peers S) (agenda agenda_after : Agenda) → get nat_cmp after.forwards.links f ≡ get nat_cmp before.forwards.links f
      → KeepsNotes no_link no_link d agenda agenda_after → IsForwardSeenTo f before agenda → IsForwardSeenTo f after agenda_after
  seen_still f d before after agenda agenda_after same notes was forward is =
      let kept = was forward (sym same ∙ is) in record {
        written = λ may. notes.owed (to_origin f) refl (kept.written may);
        heard = λ heard. still_seen notes (to_origin f) refl refl (kept.heard heard);
        queued = λ mark. notes.turns (to_origin f) refl (kept.queued mark);
      }

  pub marked_by : (f : ℕ) (times : Times) (tick : ℕ) (peers : Peers S) (agenda : Agenda) → IsAttended times tick peers agenda → IsForwardMarked f peers agenda
  marked_by f times tick peers agenda all forward is mark = (all.forwards f forward is).seen.queued mark

  pub in_time_by : (f : ℕ) (times : Times) (tick : ℕ) (peers : Peers S) (agenda : Agenda) → IsAttended times tick peers agenda → IsForwardInTime f times tick peers agenda
  in_time_by f times tick peers agenda all forward is = (all.forwards f forward is).timed

  pub seen_by : (f : ℕ) (times : Times) (tick : ℕ) (peers : Peers S) (agenda : Agenda) → IsAttended times tick peers agenda → IsForwardSeenTo f peers agenda
  seen_by f times tick peers agenda all forward is = (all.forwards f forward is).seen

  -- it stands among the turns where it did
  pub marked_still : (f : ℕ) (d : Timeout → ℕ → Bool) (before after : Peers S) (agenda agenda_after : Agenda) → get nat_cmp after.forwards.links f ≡ get nat_cmp before.forwards.links f
      → KeepsNotes no_link no_link d agenda agenda_after → IsForwardMarked f before agenda → IsForwardMarked f after agenda_after
  marked_still f d before after agenda agenda_after same notes was forward is mark = notes.turns (to_origin f) refl (was forward (sym same ∙ is) mark)

  -- ---- all links

  module _ (times : Times) (tick : ℕ) (before after : Peers S) (agenda agenda_after : Agenda) where
    -- something was done with a forward that loses no note, and links linger as before
    pub calm_attended : (f : ℕ) → ChangesForward f before after → after.lingering ≡ before.lingering
        → (get nat_cmp before.forwards.links f ≡ None → get nat_cmp after.forwards.links f ≡ None)
        → KeepsNotes no_link no_link (due_of is_of_forward f) agenda agenda_after
        → (agenda_after.refused ≡ false → IsAttended times tick before agenda → IsForwardSeenTo f after agenda_after)
        → (agenda_after.refused ≡ false → IsAttended times tick before agenda → IsForwardInTime f times tick after agenda_after)
        → (agenda.refused ≡ false → IsAttended times tick before agenda) → agenda_after.refused ≡ false → IsAttended times tick after agenda_after
    calm_attended f only same absent notes seen timed was none =
        let all = was (notes.refused none) in
        forward_changed times tick before after agenda agenda_after f only (notes_wider (λ link apart. refl) (λ link apart. refl) (link_less f) notes) (seen none all) (timed none all)
        (λ lingerer is. lingerer_still notes f tick lingerer refl refl (all.lingering f lingerer (sym (ap (λ table. get nat_cmp table.links f) same) ∙ is)))
        (λ lingerer is. absent (all.apart f lingerer (sym (ap (λ table. get nat_cmp table.links f) same) ∙ is))) all

    -- a forward had its turn, whose link doesn't linger
    pub turn_attended : (f : ℕ) → ChangesForward f before after → after.lingering ≡ before.lingering → is_lingering f before.lingering ≡ false
        → KeepsNotes (is_at (to_origin f)) (is_at (to_origin f)) (due_of is_of_link f) agenda agenda_after
        → (agenda_after.refused ≡ false → IsAttended times tick before agenda → IsForwardSeenTo f after agenda_after)
        → (agenda_after.refused ≡ false → IsAttended times tick before agenda → IsForwardInTime f times tick after agenda_after)
        → (agenda.refused ≡ false → IsAttended times tick before agenda) → agenda_after.refused ≡ false → IsAttended times tick after agenda_after
    turn_attended f only same none_lingers notes seen timed was none =
        let all = was (notes.refused none) in
        forward_changed times tick before after agenda agenda_after f only notes (seen none all) (timed none all)
        (λ lingerer is. absurd (none_there lingerer is)) (λ lingerer is. absurd (none_there lingerer is)) all
      where
        none_there : (lingerer : Lingerer S) → get nat_cmp after.lingering.links f ≡ Some lingerer → ⊥
        none_there lingerer is =
            let was_there : is_some (get nat_cmp before.lingering.links f) ≡ true = ap is_some (sym (ap (λ table. get nat_cmp table.links f) same) ∙ is) in
            cc

    -- something was done with a link that lingers, whose forward isn't there
    pub lingering_attended : (f : ℕ) → ChangesForward f before after → get nat_cmp after.forwards.links f ≡ None
        → KeepsNotes (is_at (to_origin f)) (is_at (to_origin f)) (due_of is_of_link f) agenda agenda_after
        → (agenda_after.refused ≡ false → IsAttended times tick before agenda → IsLingeringAttended f tick after agenda_after)
        → (agenda.refused ≡ false → IsAttended times tick before agenda) → agenda_after.refused ≡ false → IsAttended times tick after agenda_after
    lingering_attended f only gone notes lingers was none =
        let all = was (notes.refused none) in
        forward_changed times tick before after agenda agenda_after f only notes (λ forward is. absurd (not_there forward is)) (λ forward is. absurd (not_there forward is))
        (lingers none all) (λ lingerer is. gone) all
      where
        not_there : (forward : Forward S) → get nat_cmp after.forwards.links f ≡ Some forward → ⊥
        not_there forward is = let both : None ≡ Some forward = sym gone ∙ is in cc
