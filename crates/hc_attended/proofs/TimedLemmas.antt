-- A forward takes no longer than it may, and is marked rightly, behind each call.
use Rattle.std.proofs.Common.{◌≡◌, ℕ, ◌+◌, ◌&&◌, Bool, true, false, List, Option, Some, None, Result, Ok, Err, refl, sym, ap, subst, ◌∙◌, cond, is_some, true≢false, option_and_then, option_map}
use Rattle.std.specs.BTreeMap.{get}
use Rattle.std.specs.Ordering.{nat_cmp}
use Rattle.std.specs.declared.alloc.AllocError.{AllocError}
use Rattle.hc_flow.specs.declared.heard.Heard.{Heard}
use Rattle.hc_flow.specs.declared.heard.Heard.TheVariants.{Octets, End, Lost as Fails, Nothing}
use Rattle.hc_flow.specs.declared.progress.ForwardProgress.{ForwardProgress}
use Rattle.hc_flow.specs.declared.readiness.Readiness.{Readiness}
use Rattle.hc_flow.specs.Paces.{forward_due}
use Rattle.hc_order.specs.declared.receiver.Receiver.{Receiver}
use Rattle.hc_order.specs.declared.receiver.Receiver.TheVariants.{Origin as to_origin}
use Rattle.hc_agenda.specs.declared.agenda.Agenda.{Agenda}
use Rattle.hc_agenda.specs.declared.deadline.Timeout.{Timeout}
use Rattle.hc_agenda.specs.declared.deadline.Timeout.TheVariants as timeouts
use Rattle.hc_agenda.specs.declared.places.Places.{Places}
use Rattle.hc_agenda.specs.Due.{same_timeout}
use Rattle.hc_agenda.specs.Places.{KeepsLines, awaited_in, opened_in, unawaited_in}
use Rattle.hc_peers.specs.Behind.{Behind, ForwardGoesBy, ForwardIsHeard, ForwardLearns, ForwardRetries, LeavesReaching, LinkIsHeard, LinkLearns, can_retry, may_retry}
use Rattle.hc_peers.specs.Forwards as forwards
use Rattle.hc_peers.specs.Forwards.{is_opening, is_opening_at, is_waiting, is_waiting_at, progress_at}
use Rattle.hc_peers.specs.Knocks.{is_in}
use Rattle.hc_peers.specs.Losses.{IsLossOf}
use Rattle.hc_peers.specs.Peers.{ChangesOnly, QueuesOf}
use Rattle.hc_peers.specs.Tables.{is_there_and}
use Rattle.hc_peers.specs.declared.forward.Forward.{Forward}
use Rattle.hc_peers.specs.declared.forward.Reaching.{Reaching}
use Rattle.hc_peers.specs.declared.forward.Reaching.TheVariants.{Waiting, Linked, Lost}
use Rattle.hc_peers.specs.declared.peers.Peers.{Peers}
use Rattle.hc_attended.specs.declared.times.Times.{Times}
use Rattle.hc_attended.specs.Attended.{IsForwardTimed}
use Rattle.hc_attended.specs.Overdue.{progress_of}
use Rattle.hc_attended.specs.Notes.{KeepsNotes, due_of, is_due_up_to, no_deadline, no_link, stands_in_turn}
use Rattle.hc_attended.specs.Tending.{IsForwardInTime, IsForwardMarked, IsForwardWatched, IsFreed, is_in_line}
use Rattle.hc_attended.proofs.NoteLemmas.{notes_same}
use Rattle.hc_attended.proofs.StillLemmas.{or_kept, or_right, still_due, timed_still, waits_still}
use Rattle.hc_attended.proofs.TendLemmas.{made_of, none_is_no_value, same_value}

-- ---- what holds of what is left

pub behind_holds : {V : Type 0} (Leaves : V → V → Type 0) (P Q : V → Type 0) (before after : Option V) → Behind Leaves before after → ((one other : V) → Leaves one other → P one → Q other)
    → ((one : V) → before ≡ Some one → P one) → (other : V) → after ≡ Some other → Q other
behind_holds Leaves P Q None None behind step was other is = absurd (none_is_no_value other is)
behind_holds Leaves P Q None (Some after) behind step was other is = absurd behind
behind_holds Leaves P Q (Some before) None behind step was other is = absurd behind
behind_holds Leaves P Q (Some before) (Some after) behind step was other is = subst Q (same_value after other is) (step before after behind (was before refl))

-- ---- how it was reached

-- it waits, or its link isn't known to work, only where it was so before
pub record OpensNoLater {S : Type 0} (before after : Reaching S) : Type 0 where
  pub waits : is_waiting after ≡ true → is_waiting before ≡ true
  pub opening : is_opening after ≡ true → is_opening before ≡ true

kept_spare : (goes : Bool) (spare : Option (List ℕ)) → is_some (cond goes None spare) ≡ true → is_some spare ≡ true
kept_spare true spare is = absurd (true≢false (sym is))
kept_spare false spare is = is

module _ {S : Type 0} where
  learned : (readiness : Readiness) (before after : Reaching S) → LeavesReaching (LinkLearns readiness) before after → OpensNoLater before after × (progress_at after ≡ progress_at before)
  learned readiness (Waiting before) (Waiting after) is = (record { waits = λ w. refl; opening = λ o. o }, refl)
  learned readiness (Waiting before) (Linked after) is = absurd is
  learned readiness (Waiting before) (Lost after) is = absurd is
  learned readiness (Linked before) (Waiting after) is = absurd is
  learned readiness (Linked before) (Linked after) is =
      (record { waits = λ w. w; opening = λ o. kept_spare _ before.spare (sym (ap (λ link. is_some link.spare) is.rest) ∙ o) }, ap (λ link. Some link.progress) is.rest)
  learned readiness (Linked before) (Lost after) is = absurd is
  learned readiness (Lost before) (Waiting after) is = absurd is
  learned readiness (Lost before) (Linked after) is = absurd is
  learned readiness (Lost before) (Lost after) is = (record { waits = λ w. w; opening = λ o. o }, refl)

  heard_on : (result : Result Heard AllocError) (tick : ℕ) (before after : Reaching S) → LeavesReaching (LinkIsHeard result tick) before after → OpensNoLater before after
  heard_on result tick (Waiting before) (Waiting after) is = record { waits = λ w. refl; opening = λ o. o }
  heard_on result tick (Waiting before) (Linked after) is = absurd is
  heard_on result tick (Waiting before) (Lost after) is = absurd is
  heard_on result tick (Linked before) (Waiting after) is = absurd is
  heard_on result tick (Linked before) (Linked after) is = record { waits = λ w. w; opening = λ o. sym (ap (λ link. is_some link.spare) is.rest) ∙ o }
  heard_on result tick (Linked before) (Lost after) is = absurd is
  heard_on result tick (Lost before) (Waiting after) is = absurd is
  heard_on result tick (Lost before) (Linked after) is = absurd is
  heard_on result tick (Lost before) (Lost after) is = record { waits = λ w. w; opening = λ o. o }

  -- ---- in time

  same_places : (f : ℕ) (before after : Peers S) → ChangesOnly (to_origin f) before after → after.places ≡ before.places
  same_places f before after only = ap (λ (p : Peers S). p.places) only.0

  -- something is told of its link
  pub timed_learned : (f : ℕ) (readiness : Readiness) (before after : Peers S) (agenda agenda_after : Agenda) → ChangesOnly (to_origin f) before after
      → Behind (ForwardLearns readiness) (get nat_cmp before.forwards.links f) (get nat_cmp after.forwards.links f) → KeepsNotes no_link no_link no_deadline agenda agenda_after
      → (times : Times) (tick : ℕ) → IsForwardInTime f times tick before agenda → IsForwardInTime f times tick after agenda_after
  timed_learned f readiness before after agenda agenda_after only behind notes times tick was =
      behind_holds (ForwardLearns readiness) (λ forward. IsForwardTimed f times tick before.places agenda forward) (λ forward. IsForwardTimed f times tick after.places agenda_after forward)
      (get nat_cmp before.forwards.links f) (get nat_cmp after.forwards.links f) behind step was
    where
      step : (one other : Forward S) → ForwardLearns readiness one other → IsForwardTimed f times tick before.places agenda one → IsForwardTimed f times tick after.places agenda_after other
      step one other learns timed =
          let same = learned readiness one.reaching other.reaching learns.reaching in
          subst (λ places. IsForwardTimed f times tick places agenda_after other) (sym (same_places f before after only))
          (timed_still notes f tick times before.places before.places other refl refl refl (λ at. at) (λ at. at)
          (record { waits = λ is. timed.waits (same.0.waits is); opening = λ is. timed.opening (same.0.opening is); due = λ progress is. timed.due progress (sym same.1 ∙ is) }))

  -- at most whether it stands among the turns has changed
  pub timed_turned : (f : ℕ) (queued : Bool) (t o : Receiver → Bool) (before after : Peers S) (agenda agenda_after : Agenda) → QueuesOf queued (to_origin f) before after → ChangesOnly (to_origin f) before after
      → KeepsNotes t o no_deadline agenda agenda_after → (times : Times) (tick : ℕ) → IsForwardInTime f times tick before agenda → IsForwardInTime f times tick after agenda_after
  timed_turned f queued t o before after agenda agenda_after turns only notes times tick was forward is =
      let kept = made_of (forwards.turned queued) (get nat_cmp before.forwards.links f) (get nat_cmp after.forwards.links f) forward turns is in
      subst (λ (one : Forward S). IsForwardTimed f times tick after.places agenda_after one) (sym kept.2)
      (subst (λ places. IsForwardTimed f times tick places agenda_after (forwards.turned queued kept.0)) (sym (same_places f before after only))
      (timed_still notes f tick times before.places before.places (forwards.turned queued kept.0) refl refl refl (λ at. at) (λ at. at) (again kept.0 (was kept.0 kept.1))))
    where
      again : (one : Forward S) → IsForwardTimed f times tick before.places agenda one → IsForwardTimed f times tick before.places agenda (forwards.turned queued one)
      again one timed = record { waits = timed.waits; opening = timed.opening; due = timed.due }

  -- others stand in line as before
  pub lines_timed : (f tick : ℕ) (times : Times) (before after : Places) (agenda : Agenda) (forward : Forward S) → KeepsLines before after → IsForwardTimed f times tick before agenda forward
      → IsForwardTimed f times tick after agenda forward
  lines_timed f tick times before after agenda forward lines was =
      timed_still (notes_same agenda) f tick times before after forward refl refl refl (λ at. ap (is_in f) lines.opened ∙ at)
      (or_kept (is_in f (awaited_in before)) (is_in f (unawaited_in before)) (is_in f (awaited_in after)) (is_in f (unawaited_in after))
      (λ here. ap (is_in f) lines.awaited ∙ here) (λ there. ap (is_in f) lines.unawaited ∙ there)) was

  -- its place is free, if it isn't there
  pub timed_freed : (f : ℕ) (before after : Peers S) (agenda agenda_after : Agenda) → IsFreed f before after agenda agenda_after
      → (times : Times) (tick : ℕ) → IsForwardInTime f times tick before agenda → IsForwardInTime f times tick after agenda_after
  timed_freed f before after agenda agenda_after freed times tick was forward is =
      let there : get nat_cmp before.forwards.links f ≡ Some forward = sym (ap (λ (p : Peers S). get nat_cmp p.forwards.links f) freed.only) ∙ is in
      subst (λ noted. IsForwardTimed f times tick after.places noted forward) (sym (freed.there forward there)) (lines_timed f tick times before.places after.places agenda forward freed.lines (was forward there))

  -- something is heard of it
  one_heard : (f : ℕ) (result : Result Heard AllocError) (now : ℕ) (before after : Peers S) (agenda agenda_after : Agenda) → after.places ≡ before.places
      → KeepsNotes no_link no_link (due_of (same_timeout timeouts.Origin) f) agenda agenda_after → (times : Times) (tick : ℕ) (one other : Forward S) → ForwardIsHeard result now one other
      → ((progress : ForwardProgress) → progress_at other.reaching ≡ Some progress → is_due_up_to timeouts.Origin f (forward_due progress times.patience + 1) agenda_after ≡ true)
      → IsForwardTimed f times tick before.places agenda one → IsForwardTimed f times tick after.places agenda_after other
  one_heard f result now before after agenda agenda_after places notes times tick one other hears watched timed =
      let same = heard_on result now one.reaching other.reaching hears.reaching in
      subst (λ lines. IsForwardTimed f times tick lines agenda_after other) (sym places) (record {
        waits = λ is. waits_still notes f tick times before.places before.places refl (λ at. at) (λ at. at) (timed.waits (same.waits is));
        opening = λ is. still_due timeouts.Connect f (tick + times.connect_timeout) agenda agenda_after (notes.due timeouts.Connect f refl) (timed.opening (same.opening is));
        due = watched;
      })

  timed_by_hearing : (f : ℕ) (result : Result Heard AllocError) (now : ℕ) (before after : Peers S) (agenda agenda_after : Agenda) → after.places ≡ before.places
      → Behind (ForwardIsHeard result now) (get nat_cmp before.forwards.links f) (get nat_cmp after.forwards.links f)
      → KeepsNotes no_link no_link (due_of (same_timeout timeouts.Origin) f) agenda agenda_after → (times : Times) (tick : ℕ) → IsForwardWatched f times after agenda_after
      → IsForwardInTime f times tick before agenda → IsForwardInTime f times tick after agenda_after
  timed_by_hearing f result now before after agenda agenda_after places behind notes times tick watched was forward is =
      behind_holds (ForwardIsHeard result now) (λ one. IsForwardTimed f times tick before.places agenda one)
      (λ other. ((progress : ForwardProgress) → progress_at other.reaching ≡ Some progress → is_due_up_to timeouts.Origin f (forward_due progress times.patience + 1) agenda_after ≡ true)
      → IsForwardTimed f times tick after.places agenda_after other)
      (get nat_cmp before.forwards.links f) (get nat_cmp after.forwards.links f) behind
      (λ one other hears timed due. one_heard f result now before after agenda agenda_after places notes times tick one other hears due timed) was forward is
      (λ progress at. watched progress (at_link progress at))
    where
      at_link : (progress : ForwardProgress) → progress_at forward.reaching ≡ Some progress → progress_of f after ≡ Some progress
      at_link progress at = ap (λ there. option_and_then (λ (one : Forward S). progress_at one.reaching) there) is ∙ at

  no_longer_there : (Q : Forward S → Type 0) (after : Option (Forward S)) → after ≡ None → (forward : Forward S) → after ≡ Some forward → Q forward
  no_longer_there Q after gone forward is = absurd (none_is_no_value forward (sym gone ∙ is))

  pub timed_heard : (f : ℕ) (result : Result Heard AllocError) (now : ℕ) (before after : Peers S) (agenda agenda_after : Agenda) → ChangesOnly (to_origin f) before after
      → ForwardGoesBy result now (get nat_cmp before.forwards.links f) (get nat_cmp after.forwards.links f)
      → KeepsNotes no_link no_link (due_of (same_timeout timeouts.Origin) f) agenda agenda_after → (times : Times) (tick : ℕ) → IsForwardWatched f times after agenda_after
      → IsForwardInTime f times tick before agenda → IsForwardInTime f times tick after agenda_after
  timed_heard f (Ok (Fails reason)) now before after agenda agenda_after only behind notes times tick watched was = no_longer_there (λ forward. IsForwardTimed f times tick after.places agenda_after forward) (get nat_cmp after.forwards.links f) behind
  timed_heard f (Ok (Octets octets)) now before after agenda agenda_after only behind notes times tick watched was =
      timed_by_hearing f (Ok (Octets octets)) now before after agenda agenda_after (same_places f before after only) behind notes times tick watched was
  timed_heard f (Ok (End reason)) now before after agenda agenda_after only behind notes times tick watched was =
      timed_by_hearing f (Ok (End reason)) now before after agenda agenda_after (same_places f before after only) behind notes times tick watched was
  timed_heard f (Ok Nothing) now before after agenda agenda_after only behind notes times tick watched was =
      timed_by_hearing f (Ok Nothing) now before after agenda agenda_after (same_places f before after only) behind notes times tick watched was
  timed_heard f (Err refused) now before after agenda agenda_after only behind notes times tick watched was =
      timed_by_hearing f (Err refused) now before after agenda agenda_after (same_places f before after only) behind notes times tick watched was

  -- ---- marks

  -- it doesn't stand among the turns
  abbrev pub IsUnmarked : ℕ → Peers S → Type 0
  IsUnmarked f peers = (forward : Forward S) → get nat_cmp peers.forwards.links f ≡ Some forward → forward.queued ≡ false

  pub unmarked_rightly : (f : ℕ) (peers : Peers S) (agenda : Agenda) → IsUnmarked f peers → IsForwardMarked f peers agenda
  unmarked_rightly f peers agenda none forward is mark = absurd (true≢false (sym mark ∙ none forward is))

  pub unmarked_turned : (f : ℕ) (before after : Peers S) → QueuesOf false (to_origin f) before after → IsUnmarked f after
  unmarked_turned f before after turns forward is =
      let kept = made_of (forwards.turned false) (get nat_cmp before.forwards.links f) (get nat_cmp after.forwards.links f) forward turns is in
      ap (λ (one : Forward S). one.queued) kept.2

  unmarked_behind : (f : ℕ) (Leaves : Forward S → Forward S → Type 0) (before after : Peers S) → ((one other : Forward S) → Leaves one other → other.queued ≡ one.queued)
      → Behind Leaves (get nat_cmp before.forwards.links f) (get nat_cmp after.forwards.links f) → IsUnmarked f before → IsUnmarked f after
  unmarked_behind f Leaves before after same behind =
      behind_holds Leaves (λ one. one.queued ≡ false) (λ other. other.queued ≡ false) (get nat_cmp before.forwards.links f) (get nat_cmp after.forwards.links f) behind
      (λ one other leaves none. same one other leaves ∙ none)

  pub unmarked_heard : (f : ℕ) (result : Result Heard AllocError) (now : ℕ) (before after : Peers S) → ForwardGoesBy result now (get nat_cmp before.forwards.links f) (get nat_cmp after.forwards.links f)
      → IsUnmarked f before → IsUnmarked f after
  unmarked_heard f (Ok (Fails reason)) now before after behind was = no_longer_there (λ forward. forward.queued ≡ false) (get nat_cmp after.forwards.links f) behind
  unmarked_heard f (Ok (Octets octets)) now before after behind was = unmarked_behind f (ForwardIsHeard (Ok (Octets octets)) now) before after (λ one other is. ap (λ (x : Forward S). x.queued) is.rest) behind was
  unmarked_heard f (Ok (End reason)) now before after behind was = unmarked_behind f (ForwardIsHeard (Ok (End reason)) now) before after (λ one other is. ap (λ (x : Forward S). x.queued) is.rest) behind was
  unmarked_heard f (Ok Nothing) now before after behind was = unmarked_behind f (ForwardIsHeard (Ok Nothing) now) before after (λ one other is. ap (λ (x : Forward S). x.queued) is.rest) behind was
  unmarked_heard f (Err refused) now before after behind was = unmarked_behind f (ForwardIsHeard (Err refused) now) before after (λ one other is. ap (λ (x : Forward S). x.queued) is.rest) behind was

  pub unmarked_retried : (f : ℕ) (retries : Bool) (before after : Peers S) → Behind (ForwardRetries retries) (get nat_cmp before.forwards.links f) (get nat_cmp after.forwards.links f)
      → IsUnmarked f before → IsUnmarked f after
  unmarked_retried f retries before after = unmarked_behind f (ForwardRetries retries) before after (λ one other is. ap (λ (x : Forward S). x.queued) is.rest)

  pub unmarked_freed : (f : ℕ) (before after : Peers S) (agenda agenda_after : Agenda) → IsFreed f before after agenda agenda_after → IsUnmarked f before → IsUnmarked f after
  unmarked_freed f before after agenda agenda_after freed was forward is = was forward (sym (ap (λ (p : Peers S). get nat_cmp p.forwards.links f) freed.only) ∙ is)

  -- it is marked as before
  pub marked_behind : (f : ℕ) (d : Timeout → ℕ → Bool) (Leaves : Forward S → Forward S → Type 0) (before after : Peers S) (agenda agenda_after : Agenda)
      → ((one other : Forward S) → Leaves one other → other.queued ≡ one.queued) → Behind Leaves (get nat_cmp before.forwards.links f) (get nat_cmp after.forwards.links f)
      → KeepsNotes no_link no_link d agenda agenda_after → IsForwardMarked f before agenda → IsForwardMarked f after agenda_after
  marked_behind f d Leaves before after agenda agenda_after same behind notes =
      behind_holds Leaves (λ one. one.queued ≡ true → stands_in_turn (to_origin f) agenda ≡ true) (λ other. other.queued ≡ true → stands_in_turn (to_origin f) agenda_after ≡ true)
      (get nat_cmp before.forwards.links f) (get nat_cmp after.forwards.links f) behind
      (λ one other leaves stood mark. notes.turns (to_origin f) refl (stood (sym (same one other leaves) ∙ mark)))

  -- ---- retries

  pub can_retry_still : (f : ℕ) (queued : Bool) (before after : Peers S) → QueuesOf queued (to_origin f) before after → can_retry f before ≡ true → can_retry f after ≡ true
  can_retry_still f queued before after turns can = ap (λ there. is_there_and there (λ (one : Forward S). may_retry one.reaching)) turns ∙ still (get nat_cmp before.forwards.links f) can
    where
      still : (there : Option (Forward S)) → is_there_and there (λ (one : Forward S). may_retry one.reaching) ≡ true → is_there_and (option_map (forwards.turned queued) there) (λ (one : Forward S). may_retry one.reaching) ≡ true
      still None is = is
      still (Some one) is = is

  -- ---- one that is as before

  there_so : (test : Forward S → Bool) (there : Option (Forward S)) (forward : Forward S) → is_there_and there test ≡ false → there ≡ Some forward → test forward ≡ false
  there_so test there forward none is = sym (ap (λ one. is_there_and one test) is) ∙ none

  module _ (f : ℕ) (before after : Peers S) (agenda agenda_after : Agenda) (same : get nat_cmp after.forwards.links f ≡ get nat_cmp before.forwards.links f) where
    -- it waits for no link
    pub timed_not_waiting : is_waiting_at f before.forwards.links ≡ false → KeepsNotes no_link no_link (due_of (same_timeout timeouts.Place) f) agenda agenda_after
        → (times : Times) (tick : ℕ) → IsForwardInTime f times tick before agenda → IsForwardInTime f times tick after agenda_after
    timed_not_waiting none notes times tick was forward is =
        let kept = was forward (sym same ∙ is) in
        let not_so = there_so (λ one. is_waiting one.reaching) (get nat_cmp before.forwards.links f) forward none (sym same ∙ is) in record {
          waits = λ w. absurd (true≢false (sym w ∙ not_so));
          opening = λ o. still_due timeouts.Connect f (tick + times.connect_timeout) agenda agenda_after (notes.due timeouts.Connect f refl) (kept.opening o);
          due = λ progress at. still_due timeouts.Origin f (forward_due progress times.patience + 1) agenda agenda_after (notes.due timeouts.Origin f refl) (kept.due progress at);
        }

    -- it has no link that isn't known to work
    pub timed_not_opening : is_opening_at f before.forwards.links ≡ false → after.places ≡ before.places → KeepsNotes no_link no_link (due_of (same_timeout timeouts.Connect) f) agenda agenda_after
        → (times : Times) (tick : ℕ) → IsForwardInTime f times tick before agenda → IsForwardInTime f times tick after agenda_after
    timed_not_opening none places notes times tick was forward is =
        let kept = was forward (sym same ∙ is) in
        let not_so = there_so (λ one. is_opening one.reaching) (get nat_cmp before.forwards.links f) forward none (sym same ∙ is) in
        subst (λ lines. IsForwardTimed f times tick lines agenda_after forward) (sym places) (record {
          waits = λ w. waits_still notes f tick times before.places before.places refl (λ at. at) (λ at. at) (kept.waits w);
          opening = λ o. absurd (true≢false (sym o ∙ not_so));
          due = λ progress at. still_due timeouts.Origin f (forward_due progress times.patience + 1) agenda agenda_after (notes.due timeouts.Origin f refl) (kept.due progress at);
        })

    -- it is watched anew
    pub timed_watched : after.places ≡ before.places → KeepsNotes no_link no_link (due_of (same_timeout timeouts.Origin) f) agenda agenda_after
        → (times : Times) (tick : ℕ) → IsForwardWatched f times after agenda_after → IsForwardInTime f times tick before agenda → IsForwardInTime f times tick after agenda_after
    timed_watched places notes times tick watched was forward is =
        let kept = was forward (sym same ∙ is) in
        subst (λ lines. IsForwardTimed f times tick lines agenda_after forward) (sym places) (record {
          waits = λ w. waits_still notes f tick times before.places before.places refl (λ at. at) (λ at. at) (kept.waits w);
          opening = λ o. still_due timeouts.Connect f (tick + times.connect_timeout) agenda agenda_after (notes.due timeouts.Connect f refl) (kept.opening o);
          due = λ progress at. watched progress (ap (λ there. option_and_then (λ (one : Forward S). progress_at one.reaching) there) is ∙ at);
        })

    -- it stands in line from now on
    pub timed_joined : is_in_line f after.places ≡ true → KeepsNotes no_link no_link (due_of (same_timeout timeouts.Place) f) agenda agenda_after
        → (times : Times) (tick : ℕ) → is_due_up_to timeouts.Place f (tick + times.queue_timeout) agenda_after ≡ true
        → IsForwardInTime f times tick before agenda → IsForwardInTime f times tick after agenda_after
    timed_joined in_line notes times tick due was forward is =
        let kept = was forward (sym same ∙ is) in record {
          waits = λ w. or_right (is_in f (opened_in after.places)) (is_in_line f after.places && is_due_up_to timeouts.Place f (tick + times.queue_timeout) agenda_after) (both_true in_line due);
          opening = λ o. still_due timeouts.Connect f (tick + times.connect_timeout) agenda agenda_after (notes.due timeouts.Connect f refl) (kept.opening o);
          due = λ progress at. still_due timeouts.Origin f (forward_due progress times.patience + 1) agenda agenda_after (notes.due timeouts.Origin f refl) (kept.due progress at);
        }
      where
        both_true : {a b : Bool} → a ≡ true → b ≡ true → (a && b) ≡ true
        both_true {a} {b} one other = ap (λ x. x && b) one ∙ other

  -- ---- losses

  pub loss_turned : (queued : Bool) (there : Option (Forward S)) (result : Result Heard AllocError) → IsLossOf (option_map (forwards.turned queued) there) result → IsLossOf there result
  loss_turned queued None (Ok (Fails reason)) is = is
  loss_turned queued (Some one) (Ok (Fails reason)) is = is
  loss_turned queued there (Ok (Octets octets)) is = tt
  loss_turned queued there (Ok (End reason)) is = tt
  loss_turned queued there (Ok Nothing) is = tt
  loss_turned queued there (Err refused) is = tt
