-- What is done with a client, call by call.
use Rattle.std.proofs.Common.{◌≡◌, ◌⊎◌, ℕ, ◌+◌, ◌≤◌, ◌==◌, Bool, true, false, ◌&&◌, ◌||◌, not, length, cond, Option, Some, None, Result, Ok, Err, max, nat_lt, refl, sym, ap, subst, ◌∙◌, inl, inr, arith, nat_le}
use Rattle.std.proofs.lemmas.Bool.Decides.{nat_tests}
use Rattle.std.specs.BTreeMap.{get}
use Rattle.std.specs.Ordering.{nat_cmp}
use Rattle.std.specs.declared.alloc.AllocError.{AllocError}
use Rattle.hc_flow.specs.declared.heard.Heard.{Heard}
use Rattle.hc_flow.specs.declared.heard.Heard.TheVariants.{Octets, End, Lost, Nothing}
use Rattle.hc_flow.specs.declared.outbox.Emptying.{Emptying}
use Rattle.hc_flow.specs.declared.outbox.Emptying.TheVariants as emptying
use Rattle.hc_flow.specs.declared.pace.Pace.{Pace}
use Rattle.hc_flow.specs.declared.pace.Pace.TheVariants.{Idle, Asking, Taking}
use Rattle.hc_flow.specs.declared.patience.Patience.{Patience}
use Rattle.hc_flow.specs.declared.readiness.Readiness.{Readiness}
use Rattle.hc_flow.specs.Paces.{GetsOn, asking, next_look, owing, since_of, taken, written}
use Rattle.hc_flow.proofs.PaceLemmas.{look_in_time}
use Rattle.hc_order.specs.declared.receiver.Receiver.TheVariants.{Client as to_client}
use Rattle.hc_order.specs.Passages.{is_at}
use Rattle.hc_agenda.specs.declared.agenda.Agenda.{Agenda}
use Rattle.hc_order.specs.declared.receiver.Receiver.{Receiver}
use Rattle.hc_agenda.specs.declared.deadline.Timeout.{Timeout}
use Rattle.hc_agenda.specs.declared.deadline.Timeout.TheVariants as timeouts
use Rattle.hc_agenda.specs.Deadlines.{deadline_at, has_come, is_of_client}
use Rattle.hc_agenda.specs.Due.{same_timeout}
use Rattle.hc_flow.specs.Flows.{is_owed}
use Rattle.hc_peers.specs.Behind.{Behind, ClientIsClosed, ClientIsDropped, ClientIsHeard, ClientIsSent, ClientLearns, ClientWrites, IsFreshClient, is_closing}
use Rattle.hc_peers.specs.Clients.{may_go}
use Rattle.hc_peers.specs.Known.{turned}
use Rattle.hc_peers.specs.Peers.{QueuesOf}
use Rattle.hc_peers.specs.Tables.{KeepsOthers}
use Rattle.hc_peers.specs.Times.{pace_behind}
use Rattle.hc_peers.specs.declared.client.Client.{Client}
use Rattle.hc_peers.specs.declared.client.Hearing.{Hearing}
use Rattle.hc_peers.specs.declared.peers.Peers.{Peers}
use Rattle.hc_attended.specs.declared.times.TheConstants.{CLIENT_LINGERS, LOOKS_AGAIN}
use Rattle.hc_attended.specs.declared.times.Times.{Times}
use Rattle.hc_attended.specs.Attended.{ClientIsSeenTo}
use Rattle.hc_attended.specs.Notes.{KeepsNotes, due_of, is_due_up_to, is_noted_owed, is_seen_to, no_deadline, no_link, stands_in_turn}
use Rattle.hc_attended.specs.Tending.{ChangesClient, IsClientMarked, TendsClient}
use Rattle.hc_attended.proofs.NoteLemmas.{notes_same, notes_wider}
use Rattle.hc_attended.proofs.StillLemmas.{or_kept, or_left, still_due}
use Rattle.hc_attended.proofs.TendLemmas.{made_of}

-- ---- what is there behind a call

pub behind_there : {V : Type 0} (Leaves : V → V → Type 0) (before after : Option V) (value : V) → Behind Leaves before after → after ≡ Some value → (kept : V) × (before ≡ Some kept) × Leaves kept value
behind_there Leaves None None value is there = absurd (cc)
behind_there Leaves None (Some after) value is there = absurd is
behind_there Leaves (Some before) None value is there = absurd (cc)
behind_there Leaves (Some before) (Some after) value is there = (before, refl, subst (Leaves before) (the_same there) is)
  where
    the_same : Some after ≡ Some value → after ≡ value
    the_same e = cc

-- nobody is there who has gone
pub nobody_there : {V : Type 0} (there : Option V) (value : V) {P : Type 0} → there ≡ None → there ≡ Some value → P
nobody_there there value gone is = absurd (cc)

-- ---- time

it_came : (due latest later : ℕ) → latest ≤ later → nat_le due latest ≡ true → nat_le due later ≡ true
it_came due latest later more is = grind (arith, nat_tests, more, is)

come_later : (due : Option ℕ) (latest later : ℕ) → latest ≤ later → has_come due latest ≡ true → has_come due later ≡ true
come_later None latest later more is = absurd (cc)
come_later (Some due) latest later more is = it_came due latest later more is

-- who is due up to a tick is so up to a later one
pub due_later : (timeout : Timeout) (n latest later : ℕ) (agenda : Agenda) → latest ≤ later → is_due_up_to timeout n latest agenda ≡ true → is_due_up_to timeout n later agenda ≡ true
due_later timeout n latest later agenda more is = come_later (deadline_at timeout n agenda.deadlines) latest later more is

-- ---- how a client gets on

pub same_pace : (tick : ℕ) (pace : Pace) → GetsOn tick pace pace
same_pace tick (Idle since) = inl refl
same_pace tick (Asking since octets) = inl (0, ap (Asking since) (sym (plus_none octets)))
  where
    plus_none : (n : ℕ) → n + 0 ≡ n
    plus_none n = omega arith
same_pace tick (Taking since) = inl refl

at_once : (tick : ℕ) → tick ≤ tick
at_once tick = omega arith

gets_on_asking : (count tick : ℕ) (pace : Pace) → GetsOn tick pace (asking count tick pace)
gets_on_asking count tick (Idle since) = inr (at_once tick)
gets_on_asking count tick (Asking since octets) = inl (_, refl)
gets_on_asking count tick (Taking since) = inr (at_once tick)

pub gets_on_heard : (result : Result Heard AllocError) (tick : ℕ) (pace : Pace) → GetsOn tick pace (pace_behind result tick pace)
gets_on_heard (Ok (Octets octets)) tick pace = gets_on_asking _ tick pace
gets_on_heard (Ok (End reason)) tick pace = same_pace tick pace
gets_on_heard (Ok (Lost reason)) tick pace = same_pace tick pace
gets_on_heard (Ok Nothing) tick pace = same_pace tick pace
gets_on_heard (Err refused) tick pace = same_pace tick pace

gets_on_taking : (tick : ℕ) (pace : Pace) → GetsOn tick pace (owing true tick pace)
gets_on_taking tick (Idle since) = inr (at_once tick)
gets_on_taking tick (Asking since octets) = inr (at_once tick)
gets_on_taking tick (Taking since) = inl refl

pub gets_on_owing : (owed : Bool) (tick : ℕ) (pace : Pace) → GetsOn tick pace (owing owed tick pace)
gets_on_owing true tick pace = gets_on_taking tick pace
gets_on_owing false tick pace = same_pace tick pace

anew : (tick : ℕ) (pace later : Pace) → tick ≤ tick → (later ≡ Idle tick) ⊎ (later ≡ Taking tick) → GetsOn tick pace later
anew tick (Idle since) later same (inl is) = inr (subst (λ (p : Pace). tick ≤ since_of p) (sym is) same)
anew tick (Idle since) later same (inr is) = inr (subst (λ (p : Pace). tick ≤ since_of p) (sym is) same)
anew tick (Asking since octets) later same (inl is) = inr (subst (λ (p : Pace). tick ≤ since_of p) (sym is) same)
anew tick (Asking since octets) later same (inr is) = inr (subst (λ (p : Pace). tick ≤ since_of p) (sym is) same)
anew tick (Taking since) later same (inl is) = inr (subst (λ (p : Pace). tick ≤ since_of p) (sym is) same)
anew tick (Taking since) later same (inr is) = inr (subst (λ (p : Pace). tick ≤ since_of p) (sym is) same)

gets_on_taken : (result : Emptying) (took : Bool) (tick : ℕ) (pace : Pace) → GetsOn tick pace (taken result took tick pace)
gets_on_taken emptying.Emptied took tick pace = anew tick pace (Idle tick) (at_once tick) (inl refl)
gets_on_taken emptying.Later true tick pace = anew tick pace (Taking tick) (at_once tick) (inr refl)
gets_on_taken emptying.Later false tick pace = same_pace tick pace
gets_on_taken emptying.Failed took tick pace = same_pace tick pace

by_test : (test : Bool) (tick : ℕ) (pace later : Pace) → GetsOn tick pace later → GetsOn tick pace (cond test pace later)
by_test true tick pace later gets_on = same_pace tick pace
by_test false tick pace later gets_on = gets_on

pub gets_on_written : (result : Emptying) (before still tick : ℕ) (pace : Pace) → GetsOn tick pace (written result before still tick pace)
gets_on_written result before still tick pace = by_test (before == 0) tick pace (taken result (nat_lt still before) tick pace) (gets_on_taken result (nat_lt still before) tick pace)

-- it is looked at no earlier than before
no_earlier : (tick : ℕ) (pace later : Pace) (patience : Patience) → GetsOn tick pace later → next_look pace tick patience ≤ next_look later tick patience
no_earlier tick pace later patience gets_on = let in_time = look_in_time tick pace later patience gets_on in omega (arith, in_time)

greater : (a b c : ℕ) → a ≤ b → max a c ≤ max b c
greater a b c more = omega (arith, more)

-- a deadline that isn't a client's isn't that by which it is looked at
pub looks_less : (n : ℕ) (timeout : Timeout) (m : ℕ) → due_of is_of_client n timeout m ≡ false → due_of (same_timeout timeouts.Client) n timeout m ≡ false
looks_less n timeout m apart = less (same_timeout timeouts.Client timeout) (same_timeout timeouts.ClientLingering timeout) (n == m) apart
  where
    less : (a b c : Bool) → ((a || b) && c) ≡ false → (a && c) ≡ false
    less true b c apart = apart
    less false b c apart = refl

module _ {S : Type 0} (n : ℕ) (times : Times) (tick : ℕ) (before after : Peers S) (agenda : Agenda) where
  -- a client is marked no more than before, and gets on
  pub tends_by_call : ChangesClient n before after
      → ((client : Client S) → get nat_cmp after.clients.links n ≡ Some client → (kept : Client S) × (get nat_cmp before.clients.links n ≡ Some kept) × (client.queued ≡ kept.queued) × GetsOn tick kept.pace client.pace)
      → TendsClient n times tick before after agenda agenda
  tends_by_call only makes = record {
    only = only;
    notes = notes_wider (λ link apart. refl) (λ link apart. refl) (λ timeout m apart. refl) (notes_same agenda);
    marked = λ none was client there mark. let made = makes client there in was made.0 made.1 (sym made.2 ∙ mark);
    timed = λ none was client there. let made = makes client there in
        due_later timeouts.Client n (max (next_look made.0.pace tick times.patience) (tick + LOOKS_AGAIN)) (max (next_look client.pace tick times.patience) (tick + LOOKS_AGAIN)) agenda
        (greater (next_look made.0.pace tick times.patience) (next_look client.pace tick times.patience) (tick + LOOKS_AGAIN) (no_earlier tick made.0.pace client.pace times.patience made.3)) (was made.0 made.1);
  }

  module _ (only : ChangesClient n before after) where
    -- something is heard of it
    pub tends_heard : (hearing : Hearing) (result : Result Heard AllocError) → hearing.tick ≡ tick
        → Behind (ClientIsHeard hearing result) (get nat_cmp before.clients.links n) (get nat_cmp after.clients.links n) → TendsClient n times tick before after agenda agenda
    tends_heard hearing result now behind = tends_by_call only
        (λ client there. let is = behind_there (ClientIsHeard hearing result) (get nat_cmp before.clients.links n) (get nat_cmp after.clients.links n) client behind there in (
          is.0,
          is.1,
          ap (λ (c : Client S). c.queued) is.2.rest,
          subst (GetsOn tick is.0.pace) (sym (ap (λ (c : Client S). c.pace) is.2.rest)) (subst (λ t. GetsOn tick is.0.pace (pace_behind result t is.0.pace)) (sym now) (gets_on_heard result tick is.0.pace)),
        ))

    -- what comes of it is dropped
    pub tends_dropped : (over : Bool) → Behind (ClientIsDropped over) (get nat_cmp before.clients.links n) (get nat_cmp after.clients.links n) → TendsClient n times tick before after agenda agenda
    tends_dropped over behind = tends_by_call only
        (λ client there. let is = behind_there (ClientIsDropped over) (get nat_cmp before.clients.links n) (get nat_cmp after.clients.links n) client behind there in
        (is.0, is.1, ap (λ (c : Client S). c.queued) is.2.rest, subst (GetsOn tick is.0.pace) (sym (ap (λ (c : Client S). c.pace) is.2.rest)) (same_pace tick is.0.pace)))

    -- its connection is closed
    pub tends_closed : Behind ClientIsClosed (get nat_cmp before.clients.links n) (get nat_cmp after.clients.links n) → TendsClient n times tick before after agenda agenda
    tends_closed behind = tends_by_call only
        (λ client there. let is = behind_there ClientIsClosed (get nat_cmp before.clients.links n) (get nat_cmp after.clients.links n) client behind there in
        (is.0, is.1, ap (λ (c : Client S). c.queued) is.2.rest, subst (GetsOn tick is.0.pace) (sym (ap (λ (c : Client S). c.pace) is.2.rest)) (same_pace tick is.0.pace)))

    -- octets are owed to it
    pub tends_sent : Behind (ClientIsSent tick) (get nat_cmp before.clients.links n) (get nat_cmp after.clients.links n) → TendsClient n times tick before after agenda agenda
    tends_sent behind = tends_by_call only
        (λ client there. let is = behind_there (ClientIsSent tick) (get nat_cmp before.clients.links n) (get nat_cmp after.clients.links n) client behind there in
        (is.0, is.1, ap (λ (c : Client S). c.queued) is.2.rest, subst (GetsOn tick is.0.pace) (sym (ap (λ (c : Client S). c.pace) is.2.rest)) (gets_on_owing _ tick is.0.pace)))

    -- what is owed to it is written
    pub tends_written : (result : Option Emptying) → ClientWrites result tick (get nat_cmp before.clients.links n) (get nat_cmp after.clients.links n) → TendsClient n times tick before after agenda agenda
    tends_written result writes = tends_by_call only (λ client there. made result (get nat_cmp before.clients.links n) (get nat_cmp after.clients.links n) client writes there)
      where
        the_same : (one other : Client S) → Some one ≡ Some other → one ≡ other
        the_same one other e = cc

        made : (r : Option Emptying) (o o' : Option (Client S)) (client : Client S) → ClientWrites r tick o o' → o' ≡ Some client
            → (kept : Client S) × (o ≡ Some kept) × (client.queued ≡ kept.queued) × GetsOn tick kept.pace client.pace
        made (Some emptying) (Some kept) (Some after) client is there =
            subst (λ (c : Client S). (k : Client S) × (Some kept ≡ Some k) × (c.queued ≡ k.queued) × GetsOn tick k.pace c.pace) (the_same after client there)
            (kept, refl, ap (λ (c : Client S). c.queued) is.rest, subst (GetsOn tick kept.pace) (sym (ap (λ (c : Client S). c.pace) is.rest)) (gets_on_written emptying _ _ tick kept.pace))
        made (Some emptying) None o' client is there = absurd is
        made (Some emptying) (Some kept) None client is there = absurd is
        made None None o' client is there = nobody o' is there
          where
            nobody : (o : Option (Client S)) → ClientWrites None tick None o → o ≡ Some client → (kept : Client S) × (None ≡ Some kept) × (client.queued ≡ kept.queued) × GetsOn tick kept.pace client.pace
            nobody None is there = absurd (cc)
            nobody (Some after) is there = absurd is
        made None (Some kept) o' client is there = absurd is

module _ {S : Type 0} (n : ℕ) (times : Times) (tick : ℕ) (before after : Peers S) (agenda agenda_after : Agenda) (only : ChangesClient n before after) where
  unmarked : (client : Client S) → (kept : Client S) × (get nat_cmp before.clients.links n ≡ Some kept) × (client ≡ turned false kept) → client.queued ≡ true → ⊥
  unmarked client made mark = let off : client.queued ≡ false = ap (λ (c : Client S). c.queued) made.2 in cc

  -- it has its turn, and stands among the turns no more
  pub tends_begun : QueuesOf false (to_client n) before after → KeepsNotes (is_at (to_client n)) no_link no_deadline agenda agenda_after → TendsClient n times tick before after agenda agenda_after
  tends_begun turns notes = record {
    only = only;
    notes = notes_wider (λ link apart. apart) (λ link apart. refl) (λ timeout m apart. refl) notes;
    marked = λ none was client there mark. absurd (unmarked client (made_of (turned false) (get nat_cmp before.clients.links n) (get nat_cmp after.clients.links n) client turns there) mark);
    timed = λ none was client there.
        let kept = made_of (turned false) (get nat_cmp before.clients.links n) (get nat_cmp after.clients.links n) client turns there in
        subst (λ (c : Client S). is_due_up_to timeouts.Client n (max (next_look c.pace tick times.patience) (tick + LOOKS_AGAIN)) agenda_after ≡ true) (sym kept.2)
        (still_due timeouts.Client n _ agenda agenda_after (notes.due timeouts.Client n refl) (was kept.0 kept.1));
  }

  -- something is told of its link
  pub tends_learned : (readiness : Readiness) → Behind (ClientLearns readiness tick) (get nat_cmp before.clients.links n) (get nat_cmp after.clients.links n)
      → KeepsNotes no_link no_link no_deadline agenda agenda_after → (agenda_after.refused ≡ false → IsClientMarked n before agenda → IsClientMarked n after agenda_after)
      → TendsClient n times tick before after agenda agenda_after
  tends_learned readiness behind notes marked = record {
    only = only;
    notes = notes_wider (λ link apart. refl) (λ link apart. refl) (λ timeout m apart. refl) notes;
    marked = marked;
    timed = λ none was client there.
        let is = behind_there (ClientLearns readiness tick) (get nat_cmp before.clients.links n) (get nat_cmp after.clients.links n) client behind there in
        subst (λ (p : Pace). is_due_up_to timeouts.Client n (max (next_look p tick times.patience) (tick + LOOKS_AGAIN)) agenda_after ≡ true) (sym (ap (λ (c : Client S). c.pace) is.2.rest))
        (still_due timeouts.Client n _ agenda agenda_after (notes.due timeouts.Client n refl) (was is.0 is.1));
  }

-- ---- one client, behind what was done

may_tests : (closed failed none : Bool) → (closed && (failed || none)) ≡ false → (closed && (not failed && not (not none))) ≡ true → ⊥
may_tests true true none stays closing = cc
may_tests true false true stays closing = cc
may_tests true false false stays closing = cc
may_tests false failed none stays closing = cc

failed_tests : (failed others : Bool) → failed ≡ true → (not failed && others) ≡ true → ⊥
failed_tests true others is may = cc
failed_tests false others is may = cc

failed_others : (closed failed free : Bool) → failed ≡ true → (closed && (not failed && free)) ≡ true → ⊥
failed_others true true free is closing = cc
failed_others true false free is closing = cc
failed_others false failed free is closing = cc

fresh_tests : (works owed writable : Bool) → owed ≡ false → (works && (owed && writable)) ≡ true → ⊥
fresh_tests true true writable is may = cc
fresh_tests true false writable is may = cc
fresh_tests false owed writable is may = cc

fresh_others : (closed rest : Bool) → closed ≡ false → (closed && rest) ≡ true → ⊥
fresh_others true rest is closing = cc
fresh_others false rest is closing = cc

module _ {S : Type 0} where
  -- whoever may not go isn't closing
  pub not_closing : (client : Client S) → may_go client ≡ false → is_closing client ≡ true → ⊥
  not_closing client stays closing = may_tests client.closed client.flow.failed (length client.flow.outbox == 0) stays closing

  module _ (n tick : ℕ) (client : Client S) (agenda agenda_after : Agenda) (d : Timeout → ℕ → Bool) (notes : KeepsNotes no_link no_link d agenda agenda_after) where
    seen_still : (link : Receiver) → is_seen_to link agenda ≡ true → is_seen_to link agenda_after ≡ true
    seen_still link = or_kept (stands_in_turn link agenda) (is_noted_owed link agenda) (stands_in_turn link agenda_after) (is_noted_owed link agenda_after) (notes.turns link refl) (notes.owed link refl)

    -- what may go on there is noted still
    pub seen_by_notes : d timeouts.ClientLingering n ≡ false → ClientIsSeenTo n tick agenda client → ClientIsSeenTo n tick agenda_after client
    seen_by_notes stays was = record {
      written = λ may. notes.owed (to_client n) refl (was.written may);
      heard = λ is. seen_still (to_client n) (was.heard is);
      lingers = λ closing.
          or_kept (is_noted_owed (to_client n) agenda) (is_due_up_to timeouts.ClientLingering n (tick + CLIENT_LINGERS) agenda)
          (is_noted_owed (to_client n) agenda_after) (is_due_up_to timeouts.ClientLingering n (tick + CLIENT_LINGERS) agenda_after)
          (notes.owed (to_client n) refl) (still_due timeouts.ClientLingering n (tick + CLIENT_LINGERS) agenda agenda_after (notes.due timeouts.ClientLingering n stays)) (was.lingers closing);
      queued = λ mark. notes.turns (to_client n) refl (was.queued mark);
    }

    -- and so it is where its link need not go
    pub seen_without_lingering : may_go client ≡ false → ClientIsSeenTo n tick agenda client → ClientIsSeenTo n tick agenda_after client
    seen_without_lingering stays was = record {
      written = λ may. notes.owed (to_client n) refl (was.written may);
      heard = λ is. seen_still (to_client n) (was.heard is);
      lingers = λ closing. absurd (not_closing client stays closing);
      queued = λ mark. notes.turns (to_client n) refl (was.queued mark);
    }

    -- and where it has a turn besides
    pub seen_in_turn : (q : Bool) → d timeouts.ClientLingering n ≡ false → stands_in_turn (to_client n) agenda_after ≡ true → ClientIsSeenTo n tick agenda client → ClientIsSeenTo n tick agenda_after (turned q client)
    seen_in_turn q stays stands was = record {
      written = λ may. notes.owed (to_client n) refl (was.written may);
      heard = λ is. or_left (stands_in_turn (to_client n) agenda_after) (is_noted_owed (to_client n) agenda_after) stands;
      lingers = λ closing.
          or_kept (is_noted_owed (to_client n) agenda) (is_due_up_to timeouts.ClientLingering n (tick + CLIENT_LINGERS) agenda)
          (is_noted_owed (to_client n) agenda_after) (is_due_up_to timeouts.ClientLingering n (tick + CLIENT_LINGERS) agenda_after)
          (notes.owed (to_client n) refl) (still_due timeouts.ClientLingering n (tick + CLIENT_LINGERS) agenda agenda_after (notes.due timeouts.ClientLingering n stays)) (was.lingers closing);
      queued = λ mark. stands;
    }

  -- one that has failed and has a turn is seen to
  pub failed_in_turn : (n tick : ℕ) (client : Client S) (agenda : Agenda) → client.flow.failed ≡ true → stands_in_turn (to_client n) agenda ≡ true → ClientIsSeenTo n tick agenda client
  failed_in_turn n tick client agenda failed stands = record {
    written = λ may. absurd (failed_tests client.flow.failed (is_owed client.flow && client.flow.writable) failed may);
    heard = λ is. or_left (stands_in_turn (to_client n) agenda) (is_noted_owed (to_client n) agenda) stands;
    lingers = λ closing. absurd (failed_others client.closed client.flow.failed (not (is_owed client.flow)) failed closing);
    queued = λ mark. stands;
  }

  -- one who has just connected and has a turn is seen to
  pub fresh_in_turn : (n tick : ℕ) (stream : S) (since : ℕ) (client : Client S) (agenda : Agenda) → IsFreshClient stream since client → stands_in_turn (to_client n) agenda ≡ true → ClientIsSeenTo n tick agenda client
  fresh_in_turn n tick stream since client agenda fresh stands = record {
    written = λ may. absurd (fresh_tests (not client.flow.failed) (is_owed client.flow) client.flow.writable fresh.free may);
    heard = λ is. or_left (stands_in_turn (to_client n) agenda) (is_noted_owed (to_client n) agenda) stands;
    lingers = λ closing. absurd (fresh_others client.closed (not client.flow.failed && not (is_owed client.flow)) fresh.state.1 closing);
    queued = λ mark. stands;
  }

  -- a connection was closed
  pub client_closed : (n : ℕ) (before after : Peers S) (connected : ℕ) → KeepsOthers n before.clients.links after.clients.links
      → after ≡ record before { clients = after.clients; connected = connected } → ChangesClient n before after
  client_closed n before after connected others rest = record {
    clients = others;
    forwards = ap (λ (p : Peers S). p.forwards) rest;
    guests = ap (λ (p : Peers S). p.guests) rest;
    turned_away = ap (λ (p : Peers S). p.turned_away) rest;
    places = ap (λ (p : Peers S). p.places) rest;
    lingering = ap (λ (p : Peers S). p.lingering) rest;
  }

  -- one was opened, or none
  pub client_opened : (n : ℕ) (before after : Peers S) (last connected : ℕ) → KeepsOthers n before.clients.links after.clients.links
      → after ≡ record before { clients = after.clients; last = last; connected = connected } → ChangesClient n before after
  client_opened n before after last connected others rest = record {
    clients = others;
    forwards = ap (λ (p : Peers S). p.forwards) rest;
    guests = ap (λ (p : Peers S). p.guests) rest;
    turned_away = ap (λ (p : Peers S). p.turned_away) rest;
    places = ap (λ (p : Peers S). p.places) rest;
    lingering = ap (λ (p : Peers S). p.lingering) rest;
  }
