-- All links are attended, where one was seen to and all others were before.
use Rattle.std.proofs.Common.{◌≡◌, ℕ, ◌+◌, ◌≤◌, max, min, ◌==◌, ◌&&◌, Bool, true, false, Option, Some, None, refl, sym, ap, subst, ◌∙◌, ⊎_elim, arith}
use Rattle.std.proofs.lemmas.Bool.{cases_Bool}
use Rattle.std.proofs.lemmas.Bool.Decides.{nat_tests}
use Rattle.std.specs.BTreeMap.{get, is_at as is_key}
use Rattle.std.specs.Cmp.{unsigned_tied}
use Rattle.std.specs.Option.{IsSomeAnd}
use Rattle.std.specs.Ordering.{nat_cmp}
use Rattle.hc_order.specs.declared.receiver.Receiver.TheVariants.{Client as to_client, Origin as to_origin}
use Rattle.hc_order.specs.Passages.{is_at}
use Rattle.hc_agenda.specs.declared.agenda.Agenda.{Agenda}
use Rattle.hc_agenda.specs.Agendas.{ForgetsDeadlines, NotesDeadline, NotesTurns}
use Rattle.hc_agenda.specs.Turns.{before_all}
use Rattle.hc_flow.specs.Paces.{next_look}
use Rattle.hc_flow.specs.declared.pace.Pace.{Pace}
use Rattle.hc_agenda.specs.declared.deadline.Timeout.{Timeout}
use Rattle.hc_agenda.specs.declared.deadline.Timeout.TheVariants as timeouts
use Rattle.hc_agenda.specs.Deadlines.{is_of_client}
use Rattle.hc_agenda.specs.Due.{same_timeout}
use Rattle.hc_peers.specs.declared.client.Client.{Client}
use Rattle.hc_peers.specs.declared.forward.Forward.{Forward}
use Rattle.hc_peers.specs.declared.guests.Guest.{Guest}
use Rattle.hc_peers.specs.declared.lingerer.Lingerer.{Lingerer}
use Rattle.hc_peers.specs.declared.peers.Peers.{Peers}
use Rattle.hc_peers.specs.Behind.{Behind, ClientIsLost, IsFreshClient}
use Rattle.hc_peers.specs.Clients.{may_go}
use Rattle.hc_peers.specs.Known.{turned}
use Rattle.hc_peers.specs.Peers.{QueuesOf}
use Rattle.hc_peers.specs.Tables.{is_there_and}
use Rattle.hc_attended.specs.declared.times.TheConstants.{LOOKS_AGAIN, REFUSED_LINGERS}
use Rattle.hc_attended.specs.declared.times.Times.{Times}
use Rattle.hc_attended.specs.Attended.{ClientIsSeenTo, IsAttended, IsClientAttended, IsForwardAttended, IsLingererAttended}
use Rattle.hc_attended.specs.Notes.{KeepsNotes, due_of, is_due_up_to, is_of_link, no_deadline, no_link}
use Rattle.hc_attended.specs.Tending.{ChangesClient, ChangesForward, ChangesGuest, ChangesTurnedAway, IsClientMarked, IsClientSeenTo, IsClientTimed, IsForwardInTime, IsForwardSeenTo, IsLingeringAttended, Stands, TendsClient, TurnsOnly}
use Rattle.hc_attended.proofs.ClientLemmas.{behind_there, failed_in_turn, fresh_in_turn, looks_less, seen_by_notes, seen_in_turn, seen_without_lingering}
use Rattle.hc_attended.proofs.NoteLemmas.{due_forgotten, due_given, due_moved, first_given, first_kept, notes_same, notes_then, notes_wider}
use Rattle.hc_attended.proofs.TendLemmas.{client_changes_none, client_changes_then, client_only, lingers_less, made_of, tends_then}
use Rattle.hc_attended.proofs.StillLemmas.{client_still, forward_still, lingerer_still, still_due}

-- ---- numbers

pub apart : (n m : ℕ) → is_key (nat_cmp n) m ≡ false → (n == m) ≡ false
apart n m differ = sym (unsigned_tied n m) ∙ differ

apart_too : (n m : ℕ) → is_key (nat_cmp n) m ≡ false → (m == n) ≡ false
apart_too n m differ = let other = apart n m differ in grind (arith, nat_tests, other)

same_number : (n m : ℕ) → is_key (nat_cmp n) m ≡ true → n ≡ m
same_number n m is = let tests : (n == m) ≡ true = sym (unsigned_tied n m) ∙ is in grind (arith, nat_tests, tests)

-- what holds of one number and of all others holds of each
pub each_of : (n : ℕ) (P : ℕ → Type 0) → P n → ((m : ℕ) → is_key (nat_cmp n) m ≡ false → P m) → (m : ℕ) → P m
each_of n P one others m = ⊎_elim (λ here. subst P (same_number n m here) one) (others m) (cases_Bool (is_key (nat_cmp n) m))

-- a deadline of another number
other_due : (is_of : Timeout → Bool) (n m : ℕ) (timeout : Timeout) → is_key (nat_cmp n) m ≡ false → due_of is_of n timeout m ≡ false
other_due is_of n m timeout differ = ap (λ b. is_of timeout && b) (apart n m differ) ∙ never (is_of timeout)
  where
    never : (b : Bool) → (b && false) ≡ false
    never true = refl
    never false = refl

module _ {S : Type 0} (times : Times) (tick : ℕ) (before after : Peers S) (agenda agenda_after : Agenda) where
  -- ---- a client

  pub client_changed : (n : ℕ) → ChangesClient n before after → KeepsNotes (is_at (to_client n)) (is_at (to_client n)) (due_of is_of_client n) agenda agenda_after
      → ((client : Client S) → get nat_cmp after.clients.links n ≡ Some client → IsClientAttended n times tick agenda_after client)
      → IsAttended times tick before agenda → IsAttended times tick after agenda_after
  client_changed n only notes one was = record {
    clients = each_of n (λ m. (client : Client S) → get nat_cmp after.clients.links m ≡ Some client → IsClientAttended m times tick agenda_after client) one
        (λ m differ client is. client_still notes m tick times client (apart_too n m differ) (apart_too n m differ) (other_due is_of_client n m timeouts.Client differ)
        (other_due is_of_client n m timeouts.ClientLingering differ) (was.clients m client (sym (only.clients m differ) ∙ is)));
    forwards = λ f forward is.
        subst (λ places. IsForwardAttended f times tick places agenda_after forward) (sym only.places)
        (forward_still notes f tick times before.places before.places forward refl refl refl refl refl (λ at. at) (λ at. at)
        (was.forwards f forward (sym (ap (λ table. get nat_cmp table.links f) only.forwards) ∙ is)));
    lingering = λ f lingerer is. lingerer_still notes f tick lingerer refl refl (was.lingering f lingerer (sym (ap (λ table. get nat_cmp table.links f) only.lingering) ∙ is));
    apart = λ f lingerer is. ap (λ table. get nat_cmp table.links f) only.forwards ∙ was.apart f lingerer (sym (ap (λ table. get nat_cmp table.links f) only.lingering) ∙ is);
    guests = λ m guest is. still_due timeouts.Guest m _ agenda agenda_after (notes.due timeouts.Guest m refl)
        (was.guests m guest (sym (ap (λ guests. get nat_cmp guests.table.links m) only.guests) ∙ is));
    turned_away = λ m stream is. still_due timeouts.TurnedAway m _ agenda agenda_after (notes.due timeouts.TurnedAway m refl)
        (was.turned_away m stream (sym (ap (λ table. get nat_cmp table.links m) only.turned_away) ∙ is));
  }

  -- something was done with a client, and it is seen to
  pub client_attended : (n : ℕ) → TendsClient n times tick before after agenda agenda_after
      → (agenda_after.refused ≡ false → IsClientSeenTo n tick after agenda_after)
      → (agenda.refused ≡ false → IsAttended times tick before agenda) → agenda_after.refused ≡ false → IsAttended times tick after agenda_after
  client_attended n tends seen was none =
      let all = was (tends.notes.refused none) in
      client_changed n tends.only tends.notes
      (λ client is. record { seen = seen none client is; due = tends.timed none (λ kept there. (all.clients n kept there).due) client is }) all

  -- ---- a forward

  pub forward_changed : (f : ℕ) → ChangesForward f before after → KeepsNotes (is_at (to_origin f)) (is_at (to_origin f)) (due_of is_of_link f) agenda agenda_after
      → IsForwardSeenTo f after agenda_after → IsForwardInTime f times tick after agenda_after → IsLingeringAttended f tick after agenda_after
      → ((lingerer : Lingerer S) → get nat_cmp after.lingering.links f ≡ Some lingerer → get nat_cmp after.forwards.links f ≡ None)
      → IsAttended times tick before agenda → IsAttended times tick after agenda_after
  forward_changed f only notes seen in_time lingers distinct was = record {
    clients = λ n client is. client_still notes n tick times client refl refl refl refl (was.clients n client (sym (ap (λ table. get nat_cmp table.links n) only.clients) ∙ is));
    forwards = each_of f (λ g. (forward : Forward S) → get nat_cmp after.forwards.links g ≡ Some forward → IsForwardAttended g times tick after.places agenda_after forward)
        (λ forward is. record { seen = seen forward is; timed = in_time forward is })
        (λ g differ forward is. forward_still notes g tick times before.places after.places forward (apart_too f g differ) (apart_too f g differ)
        (other_due is_of_link f g timeouts.Place differ) (other_due is_of_link f g timeouts.Connect differ) (other_due is_of_link f g timeouts.Origin differ)
        (only.lines.opened g differ) (only.lines.in_line g differ) (was.forwards g forward (sym (only.forwards g differ) ∙ is)));
    lingering = each_of f (λ g. (lingerer : Lingerer S) → get nat_cmp after.lingering.links g ≡ Some lingerer → IsLingererAttended g tick agenda_after lingerer) lingers
        (λ g differ lingerer is. lingerer_still notes g tick lingerer (apart_too f g differ) (other_due is_of_link f g timeouts.OriginLingering differ)
        (was.lingering g lingerer (sym (only.lingering g differ) ∙ is)));
    apart = each_of f (λ g. (lingerer : Lingerer S) → get nat_cmp after.lingering.links g ≡ Some lingerer → get nat_cmp after.forwards.links g ≡ None) distinct
        (λ g differ lingerer is. only.forwards g differ ∙ was.apart g lingerer (sym (only.lingering g differ) ∙ is));
    guests = λ m guest is. still_due timeouts.Guest m _ agenda agenda_after (notes.due timeouts.Guest m refl)
        (was.guests m guest (sym (ap (λ guests. get nat_cmp guests.table.links m) only.guests) ∙ is));
    turned_away = λ m stream is. still_due timeouts.TurnedAway m _ agenda agenda_after (notes.due timeouts.TurnedAway m refl)
        (was.turned_away m stream (sym (ap (λ table. get nat_cmp table.links m) only.turned_away) ∙ is));
  }

  -- ---- a guest

  pub guest_changed : (n : ℕ) → ChangesGuest n before after → KeepsNotes no_link no_link (due_of (same_timeout timeouts.Guest) n) agenda agenda_after
      → ((guest : Guest S) → get nat_cmp after.guests.table.links n ≡ Some guest → is_due_up_to timeouts.Guest n (tick + times.patience.idle_timeout) agenda_after ≡ true)
      → IsAttended times tick before agenda → IsAttended times tick after agenda_after
  guest_changed n only notes one was = record {
    clients = λ m client is. client_still notes m tick times client refl refl refl refl (was.clients m client (sym (ap (λ (p : Peers S). get nat_cmp p.clients.links m) only.0) ∙ is));
    forwards = λ f forward is.
        subst (λ (p : Peers S). IsForwardAttended f times tick p.places agenda_after forward) (sym only.0)
        (forward_still notes f tick times before.places before.places forward refl refl refl refl refl (λ at. at) (λ at. at)
        (was.forwards f forward (sym (ap (λ (p : Peers S). get nat_cmp p.forwards.links f) only.0) ∙ is)));
    lingering = λ f lingerer is. lingerer_still notes f tick lingerer refl refl (was.lingering f lingerer (sym (ap (λ (p : Peers S). get nat_cmp p.lingering.links f) only.0) ∙ is));
    apart = λ f lingerer is. ap (λ (p : Peers S). get nat_cmp p.forwards.links f) only.0 ∙ was.apart f lingerer (sym (ap (λ (p : Peers S). get nat_cmp p.lingering.links f) only.0) ∙ is);
    guests = each_of n (λ m. (guest : Guest S) → get nat_cmp after.guests.table.links m ≡ Some guest → is_due_up_to timeouts.Guest m (tick + times.patience.idle_timeout) agenda_after ≡ true) one
        (λ m differ guest is. still_due timeouts.Guest m _ agenda agenda_after (notes.due timeouts.Guest m (other_due (same_timeout timeouts.Guest) n m timeouts.Guest differ))
        (was.guests m guest (sym (only.1 m differ) ∙ is)));
    turned_away = λ m stream is. still_due timeouts.TurnedAway m _ agenda agenda_after (notes.due timeouts.TurnedAway m refl)
        (was.turned_away m stream (sym (ap (λ (p : Peers S). get nat_cmp p.turned_away.links m) only.0) ∙ is));
  }

  -- ---- one who was turned away

  pub turned_away_changed : (n : ℕ) → ChangesTurnedAway n before after → KeepsNotes no_link no_link (due_of (same_timeout timeouts.TurnedAway) n) agenda agenda_after
      → ((stream : S) → get nat_cmp after.turned_away.links n ≡ Some stream → is_due_up_to timeouts.TurnedAway n (tick + REFUSED_LINGERS) agenda_after ≡ true)
      → IsAttended times tick before agenda → IsAttended times tick after agenda_after
  turned_away_changed n only notes one was = record {
    clients = λ m client is. client_still notes m tick times client refl refl refl refl (was.clients m client (sym (ap (λ (p : Peers S). get nat_cmp p.clients.links m) only.0) ∙ is));
    forwards = λ f forward is.
        subst (λ (p : Peers S). IsForwardAttended f times tick p.places agenda_after forward) (sym only.0)
        (forward_still notes f tick times before.places before.places forward refl refl refl refl refl (λ at. at) (λ at. at)
        (was.forwards f forward (sym (ap (λ (p : Peers S). get nat_cmp p.forwards.links f) only.0) ∙ is)));
    lingering = λ f lingerer is. lingerer_still notes f tick lingerer refl refl (was.lingering f lingerer (sym (ap (λ (p : Peers S). get nat_cmp p.lingering.links f) only.0) ∙ is));
    apart = λ f lingerer is. ap (λ (p : Peers S). get nat_cmp p.forwards.links f) only.0 ∙ was.apart f lingerer (sym (ap (λ (p : Peers S). get nat_cmp p.lingering.links f) only.0) ∙ is);
    guests = λ m guest is. still_due timeouts.Guest m _ agenda agenda_after (notes.due timeouts.Guest m refl)
        (was.guests m guest (sym (ap (λ (p : Peers S). get nat_cmp p.guests.table.links m) only.0) ∙ is));
    turned_away = each_of n (λ m. (stream : S) → get nat_cmp after.turned_away.links m ≡ Some stream → is_due_up_to timeouts.TurnedAway m (tick + REFUSED_LINGERS) agenda_after ≡ true) one
        (λ m differ stream is. still_due timeouts.TurnedAway m _ agenda agenda_after (notes.due timeouts.TurnedAway m (other_due (same_timeout timeouts.TurnedAway) n m timeouts.TurnedAway differ))
        (was.turned_away m stream (sym (only.1 m differ) ∙ is)));
  }

-- something was done with a client, and then it was seen to
pub client_seen : {S : Type 0} (times : Times) (tick : ℕ) (before between after : Peers S) (agenda mid agenda_after : Agenda) (n : ℕ)
    → TendsClient n times tick before between agenda mid → TendsClient n times tick between after mid agenda_after
    → (agenda_after.refused ≡ false → IsClientMarked n between mid → IsClientSeenTo n tick after agenda_after)
    → (agenda.refused ≡ false → IsAttended times tick before agenda) → agenda_after.refused ≡ false → IsAttended times tick after agenda_after
client_seen times tick before between after agenda mid agenda_after n does sees seen was none =
    let noted = sees.notes.refused none in
    let all = was (does.notes.refused noted) in
    client_attended times tick before after agenda agenda_after n (tends_then n times tick before between after agenda mid agenda_after does sees)
    (λ still. seen still (does.marked noted (λ client there mark. (all.clients n client there).seen.queued mark))) was none

may_not : {S : Type 0} (n : ℕ) (before : Peers S) (client : Client S) → is_there_and (get nat_cmp before.clients.links n) may_go ≡ false → get nat_cmp before.clients.links n ≡ Some client → may_go client ≡ false
may_not n before client stays there = sym (ap (λ o. is_there_and o may_go) there) ∙ stays

-- a client stays whose link may not go, and isn't tried again for its time
pub client_left : {S : Type 0} (times : Times) (tick : ℕ) (before after : Peers S) (agenda mid agenda_after : Agenda) (n : ℕ) → ChangesClient n before after
    → get nat_cmp after.clients.links n ≡ get nat_cmp before.clients.links n → mid ≡ agenda
    → is_there_and (get nat_cmp before.clients.links n) may_go ≡ false → ForgetsDeadlines (same_timeout timeouts.ClientLingering) n mid agenda_after
    → (agenda.refused ≡ false → IsAttended times tick before agenda) → agenda_after.refused ≡ false → IsAttended times tick after agenda_after
client_left times tick before after agenda mid agenda_after n changes same alike stays forgets was none =
    let kept = subst (λ (a : Agenda). KeepsNotes no_link no_link (due_of (same_timeout timeouts.ClientLingering) n) a agenda_after) alike (due_forgotten (same_timeout timeouts.ClientLingering) n mid agenda_after forgets) in
    let all = was (kept.refused none) in
    client_changed times tick before after agenda agenda_after n changes (notes_wider (λ link apart. refl) (λ link apart. refl) (lingers_less n) kept)
    (λ client there. let was_there = all.clients n client (sym same ∙ there) in
    record {
      seen = seen_without_lingering n tick client agenda agenda_after (due_of (same_timeout timeouts.ClientLingering) n) kept (may_not n before client stays (sym same ∙ there)) was_there.seen;
      due = still_due timeouts.Client n _ agenda agenda_after (kept.due timeouts.Client n refl) was_there.due;
    }) all

-- a sum that is held back at the greatest number is no more than it
pub no_more : (tick timeout most sum : ℕ) → sum ≡ min (tick + timeout) most → sum ≤ tick + timeout
no_more tick timeout most sum is = omega (arith, is)

no_later : (latest look again : ℕ) → latest ≤ again → latest ≤ max look again
no_later latest look again early = omega (arith, early)

-- a client has a turn, and is looked at anew
pub client_looked_at : {S : Type 0} (times : Times) (tick latest : ℕ) (before after : Peers S) (agenda mid agenda_after : Agenda) (n : ℕ) → TurnsOnly (to_client n) before after
    → KeepsNotes no_link no_link no_deadline agenda mid → (mid.refused ≡ false → IsClientMarked n before agenda → Stands (to_client n) after mid)
    → NotesDeadline timeouts.Client latest n mid agenda_after → latest ≤ tick + LOOKS_AGAIN
    → (agenda.refused ≡ false → IsAttended times tick before agenda) → agenda_after.refused ≡ false → IsAttended times tick after agenda_after
client_looked_at {S} times tick latest before after agenda mid agenda_after n turns kept stands notes early was none =
    let moved = due_moved timeouts.Client latest n mid agenda_after notes in
    let noted = moved.refused none in
    let all = was (kept.refused noted) in
    let both : KeepsNotes no_link no_link (due_of (same_timeout timeouts.Client) n) agenda agenda_after = notes_then (notes_wider (λ link apart. refl) (λ link apart. refl) (λ timeout m apart. refl) kept) moved in
    let up = stands noted (λ client there mark. (all.clients n client there).seen.queued mark) in
    client_changed times tick before after agenda agenda_after n (client_only n before after turns.1) (notes_wider (λ link apart. refl) (λ link apart. refl) (looks_less n) both)
    (λ client there.
    let made = made_of (turned turns.0.0) (get nat_cmp before.clients.links n) (get nat_cmp after.clients.links n) client turns.0.1 there in
    record {
      seen = subst (ClientIsSeenTo n tick agenda_after) (sym made.2)
          (seen_in_turn n tick made.0 agenda agenda_after (due_of (same_timeout timeouts.Client) n) both turns.0.0 refl (moved.turns (to_client n) refl (up client there)) (all.clients n made.0 made.1).seen);
      due = due_given timeouts.Client latest n _ mid agenda_after notes (no_later latest (next_look client.pace tick times.patience) (tick + LOOKS_AGAIN) early) none;
    }) all

-- a client is looked at anew
pub client_watched : {S : Type 0} (times : Times) (tick : ℕ) (peers : Peers S) (agenda agenda_after : Agenda) (n : ℕ) → KeepsNotes no_link no_link (due_of (same_timeout timeouts.Client) n) agenda agenda_after
    → (agenda_after.refused ≡ false → IsClientTimed n times tick peers agenda_after)
    → (agenda.refused ≡ false → IsAttended times tick peers agenda) → agenda_after.refused ≡ false → IsAttended times tick peers agenda_after
client_watched times tick peers agenda agenda_after n kept timed was none =
    let all = was (kept.refused none) in
    client_changed times tick peers peers agenda agenda_after n (client_changes_none n peers) (notes_wider (λ link apart. refl) (λ link apart. refl) (looks_less n) kept)
    (λ client there. record {
      seen = seen_by_notes n tick client agenda agenda_after (due_of (same_timeout timeouts.Client) n) kept refl (all.clients n client there).seen;
      due = timed none client there;
    }) all

-- a client is cut off, and has a turn before all others
pub client_cut_off : {S : Type 0} (times : Times) (tick : ℕ) (before between after : Peers S) (agenda agenda_after : Agenda) (n : ℕ) → ChangesClient n before between → ChangesClient n between after
    → Behind (ClientIsLost true) (get nat_cmp before.clients.links n) (get nat_cmp between.clients.links n) → QueuesOf true (to_client n) between after
    → NotesTurns (before_all agenda.turns (to_client n)) agenda agenda_after
    → (agenda.refused ≡ false → IsAttended times tick before agenda) → agenda_after.refused ≡ false → IsAttended times tick after agenda_after
client_cut_off {S} times tick before between after agenda agenda_after n one other lost queues notes was none =
    let kept = first_kept (to_client n) agenda agenda_after notes in
    let all = was (kept.refused none) in
    client_changed times tick before after agenda agenda_after n (client_changes_then n before between after one other)
    (notes_wider (λ link apart. refl) (λ link apart. refl) (λ timeout m apart. refl) kept)
    (λ client there.
    let made = made_of (turned true) (get nat_cmp between.clients.links n) (get nat_cmp after.clients.links n) client queues there in
    let was_there = behind_there (ClientIsLost true) (get nat_cmp before.clients.links n) (get nat_cmp between.clients.links n) made.0 lost made.1 in
    record {
      seen = failed_in_turn n tick client agenda_after (ap (λ (c : Client S). c.flow.failed) made.2 ∙ was_there.2.failed) (first_given (to_client n) agenda agenda_after notes none);
      due = subst (λ (p : Pace). is_due_up_to timeouts.Client n (max (next_look p tick times.patience) (tick + LOOKS_AGAIN)) agenda_after ≡ true)
          (sym (ap (λ (c : Client S). c.pace) made.2 ∙ ap (λ (c : Client S). c.pace) was_there.2.rest))
          (still_due timeouts.Client n _ agenda agenda_after (kept.due timeouts.Client n refl) (all.clients n was_there.0 was_there.1).due);
    }) all

some_and : {V : Type 0} (value : V) (P : V → Type 0) → IsSomeAnd (Some value) P → P value
some_and value P is = is

pub its_own : {V : Type 0} (o : Option V) (value : V) (P : V → Type 0) → o ≡ Some value → IsSomeAnd o P → P value
its_own o value P there is = some_and value P (subst (λ x. IsSomeAnd x P) there is)

-- one has connected, and has a turn before all others
pub client_connected : {S : Type 0} (times : Times) (tick since : ℕ) (stream : S) (before after : Peers S) (agenda mid agenda_after : Agenda) (n : ℕ) → ChangesClient n before after
    → IsSomeAnd (get nat_cmp after.clients.links n) (IsFreshClient stream since) → NotesTurns (before_all agenda.turns (to_client n)) agenda mid
    → KeepsNotes no_link no_link (due_of (same_timeout timeouts.Client) n) mid agenda_after → (agenda_after.refused ≡ false → IsClientTimed n times tick after agenda_after)
    → (agenda.refused ≡ false → IsAttended times tick before agenda) → agenda_after.refused ≡ false → IsAttended times tick after agenda_after
client_connected {S} times tick since stream before after agenda mid agenda_after n changes fresh notes kept timed was none =
    let first = first_kept (to_client n) agenda mid notes in
    let noted = kept.refused none in
    client_changed times tick before after agenda agenda_after n changes
    (notes_then (notes_wider (λ link apart. refl) (λ link apart. refl) (λ timeout m apart. refl) first) (notes_wider (λ link apart. refl) (λ link apart. refl) (looks_less n) kept))
    (λ client there. record {
      seen = fresh_in_turn n tick stream since client agenda_after (its_own (get nat_cmp after.clients.links n) client (IsFreshClient stream since) there fresh) (kept.turns (to_client n) refl (first_given (to_client n) agenda mid notes noted));
      due = timed none client there;
    }) (was (first.refused noted))

-- one who wasn't opened is as before
pub client_refused : {S : Type 0} (times : Times) (tick : ℕ) (before after : Peers S) (agenda : Agenda) (n : ℕ) → ChangesClient n before after
    → get nat_cmp after.clients.links n ≡ get nat_cmp before.clients.links n → (agenda.refused ≡ false → IsAttended times tick before agenda) → agenda.refused ≡ false
    → IsAttended times tick after agenda
client_refused times tick before after agenda n only same was none =
    client_changed times tick before after agenda agenda n only (notes_wider (λ link apart. refl) (λ link apart. refl) (λ timeout m apart. refl) (notes_same agenda)) (λ client is. (was none).clients n client (sym same ∙ is)) (was none)
