-- What is owed is noted, and written.
use Rattle.std.proofs.Common.{arith, length, suc, ◌≡◌, ◌⊎◌, ◌+◌, ◌&&◌, not, ℕ, Bool, true, false, List, [], ◌∷◌, ◌++◌, Option, Some, None, is_some, Result, Ok, Err, IsErr, OnErr, OnOk, ⊎_elim, inl, inr, true≢false, option_map, option_and_then, refl, sym, ap, subst, ◌∙◌}
use Rattle.std.specs.BTreeMap.{get}
use Rattle.std.specs.List.{list_any}
use Rattle.std.specs.declared.alloc.AllocError.{AllocError}
use Rattle.std.specs.Ordering.{nat_cmp}
use Rattle.hc_flow.specs.declared.flow.Flow.{Flow}
use Rattle.hc_flow.specs.Flows.{LeavesFlow, is_owed, may_be_written}
use Rattle.hc_flow.specs.declared.outbox.Emptying.{Emptying}
use Rattle.hc_flow.specs.declared.outbox.Emptying.TheVariants.{Emptied, Later, Failed}
use Rattle.hc_flow.specs.declared.progress.ForwardProgress.{ForwardProgress}
use Rattle.hc_order.specs.declared.receiver.Receiver.{Receiver}
use Rattle.hc_order.specs.declared.receiver.Receiver.TheVariants.{Client as to_client, Origin as to_origin}
use Rattle.hc_order.specs.Passages.{is_at}
use Rattle.hc_agenda.specs.declared.agenda.Agenda.{Agenda}
use Rattle.hc_agenda.specs.declared.deadline.Timeout.TheVariants as timeouts
use Rattle.hc_agenda.specs.Agendas.{TakesFirst, owed_in}
use Rattle.hc_agenda.specs.Deadlines.{deadline_at}
use Rattle.hc_agenda.specs.Places.{ChangesOpened, opened_in}
use Rattle.hc_agenda.specs.Due.{same_timeout}
use Rattle.hc_peers.specs.declared.client.Client.{Client}
use Rattle.hc_peers.specs.declared.forward.Forward.{Forward}
use Rattle.hc_peers.specs.declared.forward.Reaching.{Reaching}
use Rattle.hc_peers.specs.declared.forward.Reaching.TheVariants.{Waiting, Linked, Lost}
use Rattle.hc_peers.specs.declared.origin_link.OriginLink.{OriginLink}
use Rattle.hc_peers.specs.declared.peers.Peers.{Peers}
use Rattle.hc_peers.specs.Behind.{Behind, ClientIsSent, ClientWrites, ForwardIsWritten, IsFreshForward, IsOpened, IsSentTo, LinkIsWritten, OpensAt, ReachingIsWritten, brings_news, may_be_written_on, may_be_written_to}
use Rattle.hc_peers.specs.Forwards as forwards
use Rattle.hc_peers.specs.Forwards.{is_opening, is_waiting, progress_at}
use Rattle.hc_peers.specs.Knocks.{is_in}
use Rattle.hc_peers.specs.Lingering.{is_lingering}
use Rattle.hc_peers.specs.declared.lingerer.Lingerer.{Lingerer}
use Rattle.hc_peers.specs.Peers.{ChangesOnly, ChangesSent}
use Rattle.hc_peers.specs.Tables.{is_there_and}
use Rattle.hc_attended.specs.declared.times.TheConstants.{CLIENT_LINGERS}
use Rattle.hc_attended.specs.declared.times.Times.{Times}
use Rattle.hc_attended.specs.Attended.{ForwardIsSeenTo, IsAttended, IsForwardTimed, waits_for_place}
use Rattle.hc_attended.specs.Notes.{KeepsNotes, due_of, is_due_up_to, is_noted_owed, no_deadline, no_link, stands_in_turn}
use Rattle.hc_attended.specs.Tending.{ChangesClient, ChangesForward, IsClientMarked, IsClientSeenTo, IsForwardInTime, IsForwardMarked, IsForwardSeenTo, IsForwardWatched, IsReadyFor, TendsClient, TurnsOnly, is_in_line}
use Rattle.hc_attended.proofs.AttendedLemmas.{client_attended, client_changed, client_seen, forward_changed, its_own}
use Rattle.hc_attended.proofs.ClientLemmas.{behind_there, seen_by_notes, tends_sent, tends_written}
use Rattle.hc_attended.proofs.ForwardLemmas.{in_time_by, link_less, marked_by, only_forward, origin_less, seen_by}
use Rattle.hc_attended.proofs.LineLemmas.{in_last, in_more}
use Rattle.hc_attended.proofs.NoteLemmas.{notes_same, notes_then, notes_wider, owe_kept, owed_taken}
use Rattle.hc_attended.proofs.StillLemmas.{lingerer_still, or_left, or_right, still_due, timed_still, waits_still}
use Rattle.hc_attended.proofs.TendLemmas.{client_changes_none, client_only, forward_changes_then, tends_then}
use Rattle.hc_attended.proofs.TimedLemmas.{OpensNoLater, timed_turned}

-- ---- what is taken out

-- a client is no longer noted as owed
tends_taken : {S : Type 0} (n : ℕ) (times : Times) (tick : ℕ) (peers : Peers S) (agenda mid : Agenda) → KeepsNotes no_link (is_at (to_client n)) no_deadline agenda mid → TendsClient n times tick peers peers agenda mid
tends_taken n times tick peers agenda mid notes = record {
  only = client_changes_none n peers;
  notes = notes_wider (λ link apart. refl) (λ link apart. apart) (λ timeout m apart. refl) notes;
  marked = λ none was client there mark. notes.turns (to_client n) refl (was client there mark);
  timed = λ none was client there. still_due timeouts.Client n _ agenda mid (notes.due timeouts.Client n refl) (was client there);
}

-- ---- a forward that is written to

-- none is there behind a call where none was
absent_behind : {V : Type 0} (Leaves : V → V → Type 0) (before after : Option V) → Behind Leaves before after → before ≡ None → after ≡ None
absent_behind Leaves None None is gone = refl
absent_behind Leaves None (Some after) is gone = absurd is
absent_behind Leaves (Some before) after is gone = absurd (cc)

module _ {S : Type 0} where
  opening_still : (one other : OriginLink S) → is_some other.spare ≡ is_some one.spare → is_some other.spare ≡ true → is_some one.spare ≡ true
  opening_still one other same is = sym same ∙ is

  -- how far the origin was reached stays
  reaching_written : (result : Option Emptying) (now : ℕ) (before after : Reaching S) → ReachingIsWritten result now before after → OpensNoLater before after
  reaching_written None now (Waiting one) (Waiting other) is = record { waits = λ at. refl; opening = λ at. at }
  reaching_written (Some emptying) now (Linked one) (Linked other) is = record { waits = λ at. at; opening = λ at. opening_still one other (ap (λ (l : OriginLink S). is_some l.spare) is.rest) at }
  reaching_written None now (Lost one) (Lost other) is = record { waits = λ at. at; opening = λ at. at }
  reaching_written None now (Waiting one) (Linked other) is = absurd is
  reaching_written None now (Waiting one) (Lost other) is = absurd is
  reaching_written None now (Linked one) other is = absurd is
  reaching_written None now (Lost one) (Waiting other) is = absurd is
  reaching_written None now (Lost one) (Linked other) is = absurd is
  reaching_written (Some emptying) now (Waiting one) other is = absurd is
  reaching_written (Some emptying) now (Linked one) (Waiting other) is = absurd is
  reaching_written (Some emptying) now (Linked one) (Lost other) is = absurd is
  reaching_written (Some emptying) now (Lost one) other is = absurd is

  timed_written : (f : ℕ) (result : Option Emptying) (now : ℕ) (before between : Peers S) (agenda mid watched : Agenda) → ChangesOnly (to_origin f) before between
      → Behind (ForwardIsWritten result now) (get nat_cmp before.forwards.links f) (get nat_cmp between.forwards.links f) → KeepsNotes no_link (is_at (to_origin f)) no_deadline agenda mid
      → KeepsNotes no_link no_link (due_of (same_timeout timeouts.Origin) f) mid watched → (times : Times) (tick : ℕ) → IsForwardWatched f times between watched
      → IsForwardInTime f times tick before agenda → IsForwardInTime f times tick between watched
  timed_written f result now before between agenda mid watched only behind taken moves times tick watches was forward there =
      let kept = behind_there (ForwardIsWritten result now) (get nat_cmp before.forwards.links f) (get nat_cmp between.forwards.links f) forward behind there in
      let timed = was kept.0 kept.1 in
      let later = reaching_written result now kept.0.reaching forward.reaching kept.2.reaching in
      let places = ap (λ (p : Peers S). p.places) only.0 in
      record {
        waits = λ is. subst (λ p. waits_for_place f times tick p watched ≡ true) (sym places)
            (waits_still moves f tick times before.places before.places refl (λ at. at) (λ at. at) (waits_still taken f tick times before.places before.places refl (λ at. at) (λ at. at) (timed.waits (later.waits is))));
        opening = λ is. still_due timeouts.Connect f (tick + times.connect_timeout) mid watched (moves.due timeouts.Connect f refl)
            (still_due timeouts.Connect f (tick + times.connect_timeout) agenda mid (taken.due timeouts.Connect f refl) (timed.opening (later.opening is)));
        due = λ progress is. watches progress (ap (option_and_then (λ (w : Forward S). progress_at w.reaching)) there ∙ is);
      }

  written_absent : (f : ℕ) (result : Option Emptying) (now : ℕ) (before between after : Peers S) → Behind (ForwardIsWritten result now) (get nat_cmp before.forwards.links f) (get nat_cmp between.forwards.links f)
      → TurnsOnly (to_origin f) between after → get nat_cmp before.forwards.links f ≡ None → get nat_cmp after.forwards.links f ≡ None
  written_absent f result now before between after behind turns gone =
      turns.0.1 ∙ ap (option_map (forwards.turned turns.0.0)) (absent_behind (ForwardIsWritten result now) (get nat_cmp before.forwards.links f) (get nat_cmp between.forwards.links f) behind gone)

-- ---- all links

-- it is noted that something may have to be written to a client
pub owed_attended : {S : Type 0} (times : Times) (tick : ℕ) (peers : Peers S) (agenda agenda_after : Agenda) (n : ℕ) → KeepsNotes no_link no_link no_deadline agenda agenda_after
    → (agenda.refused ≡ false → IsAttended times tick peers agenda) → agenda_after.refused ≡ false → IsAttended times tick peers agenda_after
owed_attended times tick peers agenda agenda_after n notes was none =
    let all = was (notes.refused none) in
    client_changed times tick peers peers agenda agenda_after n (client_changes_none n peers) (notes_wider (λ link apart. refl) (λ link apart. refl) (λ timeout m apart. refl) notes)
    (λ client there. record {
      seen = seen_by_notes n tick client agenda agenda_after no_deadline notes refl (all.clients n client there).seen;
      due = still_due timeouts.Client n _ agenda agenda_after (notes.due timeouts.Client n refl) (all.clients n client there).due;
    }) all

-- octets are owed to a client, and it is noted that something may have to be written there
pub sent_attended : {S : Type 0} (times : Times) (tick : ℕ) (before after : Peers S) (agenda : Agenda) (n : ℕ) → TendsClient n times tick before after agenda agenda
    → Behind (ClientIsSent tick) (get nat_cmp before.clients.links n) (get nat_cmp after.clients.links n) → is_noted_owed (to_client n) agenda ≡ true
    → (agenda.refused ≡ false → IsAttended times tick before agenda) → agenda.refused ≡ false → IsAttended times tick after agenda
sent_attended {S} times tick before after agenda n tends behind owed was =
    client_attended times tick before after agenda agenda n tends
    (λ none client there.
    let is = behind_there (ClientIsSent tick) (get nat_cmp before.clients.links n) (get nat_cmp after.clients.links n) client behind there in
    record {
      written = λ may. owed;
      heard = λ heard. or_right (stands_in_turn (to_client n) agenda) (is_noted_owed (to_client n) agenda) owed;
      lingers = λ closing. or_left (is_noted_owed (to_client n) agenda) (is_due_up_to timeouts.ClientLingering n (tick + CLIENT_LINGERS) agenda) owed;
      queued = λ mark. ((was none).clients n is.0 is.1).seen.queued (sym (ap (λ (c : Client S). c.queued) is.2.rest) ∙ mark);
    }) was

-- the first client to whom something may have to be written is written to, and seen to
pub client_written : {S : Type 0} (times : Times) (tick : ℕ) (before between after : Peers S) (agenda mid agenda_after : Agenda) (n : ℕ) (result : Option Emptying)
    → mid ≡ record agenda { owed = mid.owed } → owed_in agenda ≡ to_client n ∷ owed_in mid → ChangesClient n before between
    → ClientWrites result tick (get nat_cmp before.clients.links n) (get nat_cmp between.clients.links n) → TendsClient n times tick between after mid agenda_after
    → (agenda_after.refused ≡ false → IsClientMarked n between mid → IsClientSeenTo n tick after agenda_after)
    → (agenda.refused ≡ false → IsAttended times tick before agenda) → agenda_after.refused ≡ false → IsAttended times tick after agenda_after
client_written times tick before between after agenda mid agenda_after n result is first only writes sees seen was =
    client_seen times tick before between after agenda mid agenda_after n
    (tends_then n times tick before before between agenda mid mid (tends_taken n times tick before agenda mid (owed_taken (to_client n) agenda mid is first))
    (tends_written n times tick before between mid only result writes)) sees seen was

-- a forward is written to, which is watched anew, and seen to
pub forward_written : {S : Type 0} (f : ℕ) (times : Times) (tick now : ℕ) (before between after : Peers S) (agenda mid watched_agenda agenda_after : Agenda) (result : Option Emptying)
    → mid ≡ record agenda { owed = mid.owed } → owed_in agenda ≡ to_origin f ∷ owed_in mid → ChangesOnly (to_origin f) before between
    → Behind (ForwardIsWritten result now) (get nat_cmp before.forwards.links f) (get nat_cmp between.forwards.links f)
    → KeepsNotes no_link no_link (due_of (same_timeout timeouts.Origin) f) mid watched_agenda → (watched_agenda.refused ≡ false → IsForwardWatched f times between watched_agenda)
    → TurnsOnly (to_origin f) between after → KeepsNotes no_link no_link no_deadline watched_agenda agenda_after
    → (agenda_after.refused ≡ false → IsForwardMarked f between watched_agenda → IsForwardSeenTo f after agenda_after)
    → (agenda.refused ≡ false → IsAttended times tick before agenda) → agenda_after.refused ≡ false → IsAttended times tick after agenda_after
forward_written {S} f times tick now before between after agenda mid watched_agenda agenda_after result is first only behind moves watched turns later seen was none =
    let taken = owed_taken (to_origin f) agenda mid is first in
    let calm : KeepsNotes no_link (is_at (to_origin f)) (due_of (same_timeout timeouts.Origin) f) agenda agenda_after =
    notes_then (notes_wider (λ link apart. refl) (λ link apart. apart) (λ timeout m apart. refl) taken)
    (notes_then (notes_wider (λ link apart. refl) (λ link apart. refl) (λ timeout m apart. apart) moves) (notes_wider (λ link apart. refl) (λ link apart. refl) (λ timeout m apart. refl) later)) in
    let all = was (calm.refused none) in
    let changes = forward_changes_then f before between after only turns.1 in
    let same = ap (λ (p : Peers S). p.lingering) changes.0 in
    let marked : IsForwardMarked f between watched_agenda = λ forward there mark.
    let kept = behind_there (ForwardIsWritten result now) (get nat_cmp before.forwards.links f) (get nat_cmp between.forwards.links f) forward behind there in
    moves.turns (to_origin f) refl (taken.turns (to_origin f) refl (marked_by f times tick before agenda all kept.0 kept.1 (sym (ap (λ (w : Forward S). w.queued) kept.2.rest) ∙ mark))) in
    forward_changed times tick before after agenda agenda_after f (only_forward f before after changes) (notes_wider (λ link apart. refl) (λ link apart. apart) (λ timeout m apart. origin_less f timeout m (link_less f timeout m apart)) calm)
    (seen none marked)
    (timed_turned f turns.0.0 no_link no_link between after watched_agenda agenda_after turns.0.1 turns.1 later times tick
    (timed_written f result now before between agenda mid watched_agenda only behind taken moves times tick (watched (later.refused none)) (in_time_by f times tick before agenda all)))
    (λ lingerer there. lingerer_still calm f tick lingerer refl refl (all.lingering f lingerer (sym (ap (λ table. get nat_cmp table.links f) same) ∙ there)))
    (λ lingerer there. written_absent f result now before between after behind turns (all.apart f lingerer (sym (ap (λ table. get nat_cmp table.links f) same) ∙ there))) all

-- ---- lists

none_is : {V : Type 0} {value : V} {values : List V} → [] ≡ value ∷ values → ⊥
none_is e = cc

head_of : (one link : Receiver) (xs ys : List Receiver) → one ∷ xs ≡ link ∷ ys → one ≡ link
head_of one link xs ys e = cc

same_kept : (before after : Agenda) → after ≡ record before { owed = after.owed } → owed_in after ≡ owed_in before → KeepsNotes no_link no_link no_deadline before after
same_kept before after is same = record {
  refused = λ none. sym (ap (λ (a : Agenda). a.refused) is) ∙ none;
  turns = λ link apart stood. ap (λ (a : Agenda). stands_in_turn link a) is ∙ stood;
  owed = λ link apart noted. ap (list_any (is_at link)) same ∙ noted;
  due = λ timeout n apart. ap (λ (a : Agenda). deadline_at timeout n a.deadlines) is;
}

-- ---- where a request waits for a link

module _ {S : Type 0} where
  never_written : (reaching : Reaching S) → is_waiting reaching ≡ true → may_be_written_on reaching ≡ true → ⊥
  never_written (Waiting request) is may = absurd (true≢false (sym may))
  never_written (Linked link) is may = absurd (true≢false (sym is))
  never_written (Lost reason) is may = absurd (true≢false (sym is))

  never_heard : (ended : Bool) (reaching : Reaching S) → is_waiting reaching ≡ true → (not ended && brings_news reaching) ≡ true → ⊥
  never_heard true (Waiting request) is news = true≢false (sym news)
  never_heard false (Waiting request) is news = true≢false (sym news)
  never_heard ended (Linked link) is news = true≢false (sym is)
  never_heard ended (Lost reason) is news = true≢false (sym is)

  never_opening : (reaching : Reaching S) → is_waiting reaching ≡ true → is_opening reaching ≡ true → ⊥
  never_opening (Waiting request) is opens = true≢false (sym opens)
  never_opening (Linked link) is opens = true≢false (sym is)
  never_opening (Lost reason) is opens = true≢false (sym is)

  never_progresses : (reaching : Reaching S) (progress : ForwardProgress) → is_waiting reaching ≡ true → progress_at reaching ≡ Some progress → ⊥
  never_progresses (Waiting request) progress is there = cc
  never_progresses (Linked link) progress is there = true≢false (sym is)
  never_progresses (Lost reason) progress is there = true≢false (sym is)

unmarked : (queued : Bool) → queued ≡ false → queued ≡ true → ⊥
unmarked queued off on = cc

-- the first of some links that was taken out is that one
pub first_taken : (result : Option Receiver) (link : Receiver) (before after : List Receiver) → TakesFirst result before after → (rest : List Receiver) × (before ≡ link ∷ rest) → before ≡ link ∷ after
first_taken None link before after takes first = absurd (none_is (sym takes.0 ∙ first.1))
first_taken (Some other) link before after takes first = takes ∙ ap (λ (l : Receiver). l ∷ after) (head_of other link after first.0 (sym takes ∙ first.1))

-- what is noted as owed is kept, whether memory was refused for one more or not
pub owe_keeps : {T : Type 0} (result : Result T AllocError) (link : Receiver) (before after : Agenda) → after ≡ record before { owed = after.owed } → OnOk result (owed_in after ≡ owed_in before ++ link ∷ [])
    → OnErr result (owed_in after ≡ owed_in before) → KeepsNotes no_link no_link no_deadline before after
owe_keeps (Ok done) link before after only ok err = owe_kept link before after only ok
owe_keeps (Err refused) link before after only ok err = same_kept before after only err

-- ---- a forward that is opened

module _ {S : Type 0} (f : ℕ) (before after : Peers S) (agenda : Agenda) (opened : (opened_in after.places ≡ opened_in before.places ++ f ∷ []) ⊎ (opened_in after.places ≡ opened_in before.places)) (places : ChangesOpened before.places after.places) where
  opened_still : (g : ℕ) → is_in g (opened_in before.places) ≡ true → is_in g (opened_in after.places) ≡ true
  opened_still g is = ⊎_elim (λ more. ap (is_in g) more ∙ in_more g (opened_in before.places) (f ∷ []) is) (λ same. ap (is_in g) same ∙ is) opened

  line_still : (g : ℕ) → is_in_line g before.places ≡ true → is_in_line g after.places ≡ true
  line_still g is = ap (is_in_line g) places ∙ is

  pub sent_changes : ChangesSent (to_origin f) before after → ChangesForward f before after
  sent_changes only = record {
    clients = ap (λ (p : Peers S). p.clients) only.0;
    guests = ap (λ (p : Peers S). p.guests) only.0;
    turned_away = ap (λ (p : Peers S). p.turned_away) only.0;
    forwards = only.1;
    lingering = λ g differ. ap (λ (p : Peers S). get nat_cmp p.lingering.links g) only.0;
    lines = record { opened = λ g differ. opened_still g; in_line = λ g differ. line_still g };
  }

  -- one that is there waits for a link
  fresh_seen : (forward : Forward S) → IsFreshForward forward → ForwardIsSeenTo f agenda forward
  fresh_seen forward fresh = record {
    written = λ may. absurd (never_written forward.reaching fresh.waits may);
    heard = λ is. absurd (never_heard forward.ended forward.reaching fresh.waits is);
    queued = λ mark. absurd (unmarked forward.queued fresh.queued mark);
  }

  fresh_timed : (times : Times) (tick : ℕ) (forward : Forward S) → is_in f (opened_in after.places) ≡ true → IsFreshForward forward → IsForwardTimed f times tick after.places agenda forward
  fresh_timed times tick forward stands fresh = record {
    waits = λ is. or_left (is_in f (opened_in after.places)) (is_in_line f after.places && is_due_up_to timeouts.Place f (tick + times.queue_timeout) agenda) stands;
    opening = λ is. absurd (never_opening forward.reaching fresh.waits is);
    due = λ progress is. absurd (never_progresses forward.reaching progress fresh.waits is);
  }

  -- octets are sent to the origin: a forward is opened, of which no link lingers, or all is as before
  pub opened_attended : (times : Times) (tick : ℕ) (result : Result Unit AllocError) → ChangesSent (to_origin f) before after → is_lingering f before.lingering ≡ false
      → OnOk result (opened_in after.places ≡ opened_in before.places ++ f ∷ []) → IsOpened result (get nat_cmp before.forwards.links f) (get nat_cmp after.forwards.links f)
      → (agenda.refused ≡ false → IsAttended times tick before agenda) → agenda.refused ≡ false → IsAttended times tick after agenda
  opened_attended times tick (Ok done) only none_lingers last fresh was none =
      forward_changed times tick before after agenda agenda f (sent_changes only) (notes_wider (λ link apart. refl) (λ link apart. refl) (λ timeout m apart. refl) (notes_same agenda))
      (λ forward there. fresh_seen forward (its_own (get nat_cmp after.forwards.links f) forward IsFreshForward there fresh))
      (λ forward there. fresh_timed times tick forward (ap (is_in f) last ∙ in_last f (opened_in before.places)) (its_own (get nat_cmp after.forwards.links f) forward IsFreshForward there fresh))
      (λ lingerer there. absurd (nobody lingerer there)) (λ lingerer there. absurd (nobody lingerer there)) (was none)
    where
      nobody : (lingerer : Lingerer S) → get nat_cmp after.lingering.links f ≡ Some lingerer → ⊥
      nobody lingerer there =
          let was_there : is_some (get nat_cmp before.lingering.links f) ≡ true = ap is_some (sym (ap (λ (p : Peers S). get nat_cmp p.lingering.links f) only.0) ∙ there) in
          cc
  opened_attended times tick (Err refused) only none_lingers last same was none =
      let all = was none in
      forward_changed times tick before after agenda agenda f (sent_changes only) (notes_wider (λ link apart. refl) (λ link apart. refl) (λ timeout m apart. refl) (notes_same agenda))
      (λ forward there. seen_by f times tick before agenda all forward (sym same ∙ there))
      (λ forward there. timed_still (notes_same agenda) f tick times before.places after.places forward refl refl refl (opened_still f) (line_still f) (in_time_by f times tick before agenda all forward (sym same ∙ there)))
      (λ lingerer there. all.lingering f lingerer (sym (ap (λ (p : Peers S). get nat_cmp p.lingering.links f) only.0) ∙ there))
      (λ lingerer there. same ∙ all.apart f lingerer (sym (ap (λ (p : Peers S). get nat_cmp p.lingering.links f) only.0) ∙ there)) all

-- which line there is behind what was opened
opened_or : {T : Type 0} (result : Result T AllocError) {more same : Type 0} → more ⊎ (IsErr result × same) → more ⊎ same
opened_or result (inl is) = inl is
opened_or result (inr is) = inr is.1

on_ok : {T : Type 0} (result : Result T AllocError) {more same : Type 0} → more ⊎ (IsErr result × same) → OnOk result more
on_ok (Ok done) (inl is) = is
on_ok (Ok done) (inr is) = absurd (true≢false (sym is.0))
on_ok (Err refused) is = tt

-- octets are sent to a client or to the origin
pub sent_to : {S : Type 0} (to : Receiver) (times : Times) (tick : ℕ) (before after : Peers S) (agenda : Agenda) (result : Result Unit AllocError) → IsReadyFor to before agenda → ChangesSent to before after
    → IsSentTo to result tick before after → OpensAt to result before after
    → (agenda.refused ≡ false → IsAttended times tick before agenda) → agenda.refused ≡ false → IsAttended times tick after agenda
sent_to (to_client n) times tick before after agenda result ready only behind opens was =
    sent_attended times tick before after agenda n (tends_sent n times tick before after agenda (client_only n before after only) behind) behind ready was
sent_to (to_origin f) times tick before after agenda result ready only behind opens was =
    opened_attended f before after agenda (opened_or result opens.opened) opens.places times tick result only ready (on_ok result opens.opened) behind was

-- ---- nothing more may be written

module _ {S : Type 0} where
  flow_taken : (emptying : Emptying) (flow : Flow S) → LeavesFlow emptying flow → may_be_written flow ≡ false
  flow_taken Emptied flow leaves = by_owed (not flow.failed) (is_owed flow) flow.writable leaves.0
    where
      by_owed : (works owed writable : Bool) → owed ≡ false → (works && (owed && writable)) ≡ false
      by_owed true true writable is = absurd (true≢false is)
      by_owed true false writable is = refl
      by_owed false owed writable is = refl
  flow_taken Later flow leaves = by_writable (not flow.failed) (is_owed flow) flow.writable leaves.1
    where
      by_writable : (works owed writable : Bool) → writable ≡ false → (works && (owed && writable)) ≡ false
      by_writable true true writable is = is
      by_writable true false writable is = refl
      by_writable false owed writable is = refl
  flow_taken Failed flow leaves = by_failed flow.failed (is_owed flow && flow.writable) leaves
    where
      by_failed : (failed rest : Bool) → failed ≡ true → (not failed && rest) ≡ false
      by_failed true rest is = refl
      by_failed false rest is = absurd (true≢false (sym is))

  link_taken : (emptying : Emptying) (now : ℕ) (one other : OriginLink S) → LinkIsWritten emptying now one other → may_be_written_on (Linked other) ≡ false
  link_taken emptying now one other writes = by_spare (is_some one.spare) refl
    where
      same : is_some other.spare ≡ is_some one.spare
      same = ap (λ (l : OriginLink S). is_some l.spare) writes.rest

      by_spare : (spare : Bool) → is_some one.spare ≡ spare → (not (is_some other.spare) && may_be_written other.flow) ≡ false
      by_spare true is = ap (λ b. not b && may_be_written other.flow) (same ∙ is)
      by_spare false is = ap (λ b. not b && may_be_written other.flow) (same ∙ is) ∙ flow_taken emptying other.flow (writes.leaves is)

  reaching_taken : (result : Option Emptying) (now : ℕ) (before after : Reaching S) → ReachingIsWritten result now before after → may_be_written_on after ≡ false
  reaching_taken result now before (Waiting request) is = refl
  reaching_taken (Some emptying) now (Linked one) (Linked other) is = link_taken emptying now one other is
  reaching_taken None now (Linked one) (Linked other) is = absurd is
  reaching_taken None now (Waiting one) (Linked other) is = absurd is
  reaching_taken None now (Lost one) (Linked other) is = absurd is
  reaching_taken (Some emptying) now (Waiting one) (Linked other) is = absurd is
  reaching_taken (Some emptying) now (Lost one) (Linked other) is = absurd is
  reaching_taken result now before (Lost reason) is = refl

  -- what was owed there is written as far as it is taken
  pub forward_taken : (f : ℕ) (result : Option Emptying) (now : ℕ) (before after : Peers S) → Behind (ForwardIsWritten result now) (get nat_cmp before.forwards.links f) (get nat_cmp after.forwards.links f)
      → may_be_written_to (to_origin f) after ≡ false
  forward_taken f result now before after = taken (get nat_cmp before.forwards.links f) (get nat_cmp after.forwards.links f)
    where
      taken : (o o' : Option (Forward S)) → Behind (ForwardIsWritten result now) o o' → is_there_and o' (λ forward. may_be_written_on forward.reaching) ≡ false
      taken None None is = refl
      taken None (Some after) is = absurd is
      taken (Some before) None is = absurd is
      taken (Some before) (Some after) is = reaching_taken result now before.reaching after.reaching is.reaching

plus_one : (n : ℕ) → n + 1 ≡ suc n
plus_one n = omega arith

-- one was taken out
pub fewer_owed : (link : Receiver) (before after : List Receiver) → before ≡ link ∷ after → length after + 1 ≡ length before
fewer_owed link before after is = plus_one (length after) ∙ ap length (sym is)
