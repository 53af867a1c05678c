-- Links that linger are attended behind each call.
use Rattle.std.proofs.Common.{◌≡◌, ℕ, ◌+◌, Bool, true, false, List, [], ◌∷◌, Option, Some, None, refl, sym, ap, subst, ◌∙◌, is_some}
use Rattle.std.specs.BTreeMap.{get}
use Rattle.std.specs.Ordering.{nat_cmp}
use Rattle.hc_order.specs.declared.receiver.Receiver.{Receiver}
use Rattle.hc_order.specs.declared.receiver.Receiver.TheVariants.{Origin as to_origin}
use Rattle.hc_order.specs.Passages.{is_at}
use Rattle.hc_agenda.specs.declared.agenda.Agenda.{Agenda}
use Rattle.hc_agenda.specs.declared.deadline.Timeout.{Timeout}
use Rattle.hc_agenda.specs.declared.deadline.Timeout.TheVariants as timeouts
use Rattle.hc_agenda.specs.Due.{same_timeout}
use Rattle.hc_agenda.specs.Turns.{GivesTurn, IsFirstTurn, Waiting}
use Rattle.hc_peers.specs.declared.lingerer.Lingerer.{Lingerer}
use Rattle.hc_peers.specs.declared.peers.Peers.{Peers}
use Rattle.hc_peers.specs.Lingering.{GainsNoLingerer, is_lingering}
use Rattle.hc_peers.specs.Peers.{ChangesOnly}
use Rattle.hc_attended.specs.declared.times.TheConstants.{ORIGIN_LINGERS}
use Rattle.hc_attended.specs.declared.times.Times.{Times}
use Rattle.hc_attended.specs.Attended.{ForwardIsSeenTo, IsAttended, IsForwardTimed, IsLingererAttended}
use Rattle.hc_attended.specs.Notes.{KeepsNotes, due_of, no_deadline, no_link}
use Rattle.hc_attended.specs.Tending.{ChangesLingering, IsForwardInTime, IsForwardSeenTo, IsFreed, IsLingeringAttended, IsLingeringMarked}
use Rattle.hc_attended.proofs.AttendedLemmas.{forward_changed}
use Rattle.hc_attended.proofs.ForwardLemmas.{changed_then, in_time_by, lingering_attended, lingering_less, only_forward, only_lingering, only_places, seen_by, seen_still}
use Rattle.hc_attended.proofs.LineLemmas.{kept_lines}
use Rattle.hc_attended.proofs.NoteLemmas.{notes_then, notes_wider}
use Rattle.hc_attended.proofs.StillLemmas.{still_due, timed_still}
use Rattle.hc_attended.proofs.TendLemmas.{none_is_no_value}
use Rattle.hc_attended.proofs.TimedLemmas.{timed_freed}

-- ---- turns

same_first : (one other : Receiver) (rest others : List Receiver) → one ∷ rest ≡ other ∷ others → one ≡ other
same_first one other rest others e = cc

empty_first : (batch : List Receiver) (link : Receiver) (rest : List Receiver) → batch ≡ link ∷ rest → batch ≡ [] → ⊥
empty_first batch link rest is none = cc

-- the first link has its turn
pub turn_begun : (link : Receiver) (result : Option Receiver) (before after : Waiting) → IsFirstTurn (Some link) before → GivesTurn result before after
    → before ≡ record { batch = link ∷ after.batch; behind = after.behind }
turn_begun link None before after first given = absurd (empty_first before.batch link first.0 first.1 given.0)
turn_begun link (Some other) before after first given =
    subst (λ one. before ≡ record { batch = one ∷ after.batch; behind = after.behind }) (same_first other link after.batch first.0 (sym (ap (λ (w : Waiting). w.batch) given) ∙ first.1)) given

-- ---- one that lingers

pub one_there : {V : Type 0} (there : Option V) → is_some there ≡ true → (value : V) × (there ≡ Some value)
one_there None is = absurd (cc)
one_there (Some value) is = (value, refl)

module _ {S : Type 0} (f tick : ℕ) where
  -- none lingers that didn't before, and each goes in time still
  pub lingering_still : (t o : Receiver → Bool) (d : Timeout → ℕ → Bool) (before after : Peers S) (agenda agenda_after : Agenda) → GainsNoLingerer before.lingering after.lingering
      → KeepsNotes t o d agenda agenda_after → d timeouts.OriginLingering f ≡ false → IsLingeringMarked f after agenda_after
      → IsLingeringAttended f tick before agenda → IsLingeringAttended f tick after agenda_after
  lingering_still t o d before after agenda agenda_after gains notes apart marked was lingerer is =
      let kept = one_there (get nat_cmp before.lingering.links f) (gains f (ap is_some is)) in record {
        queued = λ mark. marked lingerer is mark;
        due = still_due timeouts.OriginLingering f (tick + ORIGIN_LINGERS) agenda agenda_after (notes.due timeouts.OriginLingering f apart) (was kept.0 kept.1).due;
      }

  pub lingering_freed : (before after : Peers S) (agenda agenda_after : Agenda) → IsFreed f before after agenda agenda_after
      → IsLingeringAttended f tick before agenda → IsLingeringAttended f tick after agenda_after
  lingering_freed before after agenda agenda_after freed was lingerer is =
      let there : get nat_cmp before.lingering.links f ≡ Some lingerer = sym (ap (λ (p : Peers S). get nat_cmp p.lingering.links f) freed.only) ∙ is in
      subst (λ noted. IsLingererAttended f tick noted lingerer) (sym (freed.lingers lingerer there)) (was lingerer there)

  -- where none lingers, all that do are attended
  pub none_lingers : (peers : Peers S) (agenda : Agenda) → get nat_cmp peers.lingering.links f ≡ None → IsLingeringAttended f tick peers agenda
  none_lingers peers agenda none lingerer is = absurd (none_is_no_value lingerer (sym none ∙ is))

  -- ---- its forward, if it is there

  pub seen_freed : (before after : Peers S) (agenda agenda_after : Agenda) → IsFreed f before after agenda agenda_after → IsForwardSeenTo f before agenda → IsForwardSeenTo f after agenda_after
  seen_freed before after agenda agenda_after freed was forward is =
      let there : get nat_cmp before.forwards.links f ≡ Some forward = sym (ap (λ (p : Peers S). get nat_cmp p.forwards.links f) freed.only) ∙ is in
      subst (λ noted. ForwardIsSeenTo f noted forward) (sym (freed.there forward there)) (was forward there)

  timed_lingering : (times : Times) (before after : Peers S) (agenda agenda_after : Agenda) → ChangesLingering f before after
      → KeepsNotes no_link no_link (due_of (same_timeout timeouts.OriginLingering) f) agenda agenda_after → IsForwardInTime f times tick before agenda → IsForwardInTime f times tick after agenda_after
  timed_lingering times before after agenda agenda_after only notes was forward is =
      subst (λ places. IsForwardTimed f times tick places agenda_after forward) (sym (ap (λ (p : Peers S). p.places) only.0))
      (timed_still notes f tick times before.places before.places forward refl refl refl (λ at. at) (λ at. at) (was forward (sym (ap (λ (p : Peers S). get nat_cmp p.forwards.links f) only.0) ∙ is)))

  -- ---- all links

  module _ (times : Times) where
    was_apart : (before after : Peers S) (agenda : Agenda) → GainsNoLingerer before.lingering after.lingering → get nat_cmp after.forwards.links f ≡ get nat_cmp before.forwards.links f
        → IsAttended times tick before agenda → (lingerer : Lingerer S) → get nat_cmp after.lingering.links f ≡ Some lingerer → get nat_cmp after.forwards.links f ≡ None
    was_apart before after agenda gains same all lingerer is =
        let kept = one_there (get nat_cmp before.lingering.links f) (gains f (ap is_some is)) in same ∙ all.apart f kept.0 kept.1

    -- a link that lingers has a turn
    pub turn_to_linger : (before after : Peers S) (agenda agenda_after : Agenda) → ChangesLingering f before after → GainsNoLingerer before.lingering after.lingering
        → KeepsNotes no_link no_link no_deadline agenda agenda_after
        → (agenda_after.refused ≡ false → IsLingeringMarked f before agenda → IsLingeringMarked f after agenda_after)
        → (agenda.refused ≡ false → IsAttended times tick before agenda) → agenda_after.refused ≡ false → IsAttended times tick after agenda_after
    turn_to_linger before after agenda agenda_after only gains notes stands was none =
        let all = was (notes.refused none) in
        let same = ap (λ (p : Peers S). get nat_cmp p.forwards.links f) only.0 in
        let wider = notes_wider {t' = no_link} {o' = no_link} {d' = due_of (same_timeout timeouts.OriginLingering) f} (λ link apart. refl) (λ link apart. refl) (λ timeout n apart. refl) notes in
        forward_changed times tick before after agenda agenda_after f (only_lingering f before after only) (notes_wider (λ link apart. refl) (λ link apart. refl) (λ timeout n apart. refl) notes)
        (seen_still f no_deadline before after agenda agenda_after same notes (seen_by f times tick before agenda all))
        (timed_lingering times before after agenda agenda_after only wider (in_time_by f times tick before agenda all))
        (lingering_still no_link no_link no_deadline before after agenda agenda_after gains notes refl (stands none (λ lingerer is mark. (all.lingering f lingerer is).queued mark)) (all.lingering f))
        (was_apart before after agenda gains same all) all

    -- a link that lingered goes, and the place of its forward, if that isn't there
    pub lingering_dropped : (before between after : Peers S) (agenda mid agenda_after : Agenda) → ChangesLingering f before between → get nat_cmp between.lingering.links f ≡ None
        → KeepsNotes no_link no_link (due_of (same_timeout timeouts.OriginLingering) f) agenda mid → IsFreed f between after mid agenda_after
        → (agenda.refused ≡ false → IsAttended times tick before agenda) → agenda_after.refused ≡ false → IsAttended times tick after agenda_after
    lingering_dropped before between after agenda mid agenda_after only gone notes freed was none =
        let none_before = freed.notes.refused none in
        let all = was (notes.refused none_before) in
        let none_left = ap (λ (p : Peers S). get nat_cmp p.lingering.links f) freed.only ∙ gone in
        forward_changed times tick before after agenda agenda_after f
        (changed_then f before between after (only_lingering f before between only) (only_places f between after freed.only (kept_lines f between.places after.places freed.lines)))
        (notes_then (notes_wider (λ link apart. refl) (λ link apart. refl) (lingering_less f) notes) (notes_wider (λ link apart. refl) (λ link apart. refl) (λ timeout n apart. apart) freed.notes))
        (seen_freed between after mid agenda_after freed
        (seen_still f (due_of (same_timeout timeouts.OriginLingering) f) before between agenda mid (ap (λ (p : Peers S). get nat_cmp p.forwards.links f) only.0) notes (seen_by f times tick before agenda all)))
        (timed_freed f between after mid agenda_after freed times tick (timed_lingering times before between agenda mid only notes (in_time_by f times tick before agenda all)))
        (none_lingers after agenda_after none_left) (λ lingerer is. absurd (none_is_no_value lingerer (sym none_left ∙ is))) all

    -- what comes on a link that lingers, and has its turn, is dropped
    pub rest_dropped : (before between after : Peers S) (agenda turned mid agenda_after : Agenda) → is_lingering f before.lingering ≡ true → KeepsNotes (is_at (to_origin f)) no_link no_deadline agenda turned
        → ChangesLingering f before between → GainsNoLingerer before.lingering between.lingering → KeepsNotes no_link no_link no_deadline turned mid
        → (mid.refused ≡ false → IsLingeringMarked f between mid) → IsFreed f between after mid agenda_after
        → (agenda.refused ≡ false → IsAttended times tick before agenda) → agenda_after.refused ≡ false → IsAttended times tick after agenda_after
    rest_dropped before between after agenda turned mid agenda_after lingers turn only gains notes stands freed was none =
        let there = one_there (get nat_cmp before.lingering.links f) lingers in
        let to_mid = notes_then turn (notes_wider (λ link apart. refl) (λ link apart. refl) (λ timeout n apart. refl) notes) in
        let none_mid = freed.notes.refused none in
        let all = was (to_mid.refused none_mid) in
        lingering_attended times tick before after agenda agenda_after f
        (changed_then f before between after (only_lingering f before between only) (only_places f between after freed.only (kept_lines f between.places after.places freed.lines)))
        (ap (λ (p : Peers S). get nat_cmp p.forwards.links f) freed.only ∙ (ap (λ (p : Peers S). get nat_cmp p.forwards.links f) only.0 ∙ all.apart f there.0 there.1))
        (notes_then (notes_wider (λ link apart. apart) (λ link apart. refl) (λ timeout n apart. refl) to_mid) (notes_wider (λ link apart. refl) (λ link apart. refl) (λ timeout n apart. apart) freed.notes))
        (λ ok every. lingering_freed between after mid agenda_after freed (lingering_still (is_at (to_origin f)) no_link no_deadline before between agenda mid gains to_mid refl (stands none_mid) (every.lingering f)))
        was none

    -- a forward is closed, and its link may linger
    pub forward_closed : (before closed between after : Peers S) (agenda mid agenda_after : Agenda) → ChangesOnly (to_origin f) before closed → get nat_cmp closed.forwards.links f ≡ None
        → ChangesLingering f closed between → KeepsNotes no_link no_link (due_of (same_timeout timeouts.OriginLingering) f) agenda mid
        → (mid.refused ≡ false → IsLingeringAttended f tick closed agenda → IsLingeringAttended f tick between mid) → IsFreed f between after mid agenda_after
        → (agenda.refused ≡ false → IsAttended times tick before agenda) → agenda_after.refused ≡ false → IsAttended times tick after agenda_after
    forward_closed before closed between after agenda mid agenda_after only gone lingers notes attended freed =
        lingering_attended times tick before after agenda agenda_after f
        (changed_then f before closed after (only_forward f before closed only)
        (changed_then f closed between after (only_lingering f closed between lingers) (only_places f between after freed.only (kept_lines f between.places after.places freed.lines))))
        (ap (λ (p : Peers S). get nat_cmp p.forwards.links f) freed.only ∙ (ap (λ (p : Peers S). get nat_cmp p.forwards.links f) lingers.0 ∙ gone))
        (notes_then (notes_wider (λ link apart. refl) (λ link apart. refl) (lingering_less f) notes) (notes_wider (λ link apart. refl) (λ link apart. refl) (λ timeout n apart. apart) freed.notes))
        (λ ok all. lingering_freed between after mid agenda_after freed (attended (freed.notes.refused ok)
        (λ lingerer is. all.lingering f lingerer (sym (ap (λ (p : Peers S). get nat_cmp p.lingering.links f) only.0) ∙ is))))
