-- What follows where a crowd is settled.
use Rattle.std.proofs.Common.{◌≡◌, ℕ, ◌+◌, ◌⊎◌, ◌≤◌, Bool, true, false, ◌&&◌, ◌||◌, not, List, [], ◌∷◌, length, BTreeMap, Option, Some, None, IfSome, max, nat_cmp, refl, sym, ap, subst, ◌∙◌, inl, inr, ⊎_elim, arith, le_trans, true≢false}
use Rattle.std.specs.BTreeMap.{get, is_at as is_key}
use Rattle.std.specs.Map.{lookup}
use Rattle.std.specs.List.{Contains, list_any}
use Rattle.std.specs.Option.{is_some}
use Rattle.std.proofs.lemmas.Bool.Decides.{nat_tests}
use Rattle.std.proofs.lemmas.List.Elements.{Contains-append_left, Contains-append_right, Contains-push}
use Rattle.hc_order.specs.declared.receiver.Receiver.{Receiver}
use Rattle.hc_order.specs.declared.receiver.Receiver.TheVariants.{Client as to_client, Origin as to_origin}
use Rattle.hc_order.specs.Passages.{is_at}
use Rattle.hc_flow.specs.Flows.{is_owed}
use Rattle.hc_flow.specs.Paces.{forward_due, next_look}
use Rattle.hc_flow.specs.declared.progress.ForwardProgress.{ForwardProgress}
use Rattle.hc_agenda.specs.declared.agenda.Agenda.{Agenda}
use Rattle.hc_agenda.specs.declared.deadline.Timeout.{Timeout}
use Rattle.hc_agenda.specs.declared.deadline.Timeout.TheVariants as timeouts
use Rattle.hc_agenda.specs.declared.places.Places.{Places}
use Rattle.hc_agenda.specs.Agendas.{IsFree, IsToBeDone, owed_in}
use Rattle.hc_agenda.specs.Deadlines.{deadline_at, has_come}
use Rattle.hc_agenda.specs.Earliest.{IsEarliest}
use Rattle.hc_agenda.specs.Places.{IsFull, IsNext, NoPlaceIsLeftBehind, awaited_in, opened_in, unawaited_in}
use Rattle.hc_agenda.specs.Turns.{IsBatch, Step, Waiting, all_of, turns_of}
use Rattle.hc_agenda.proofs.TurnLemmas.{each_has_its_turn}
use Rattle.hc_peers.specs.declared.client.Client.{Client}
use Rattle.hc_peers.specs.declared.forward.Forward.{Forward}
use Rattle.hc_peers.specs.declared.forward.Reaching.{Reaching}
use Rattle.hc_peers.specs.declared.forward.Reaching.TheVariants.{Waiting as Awaiting, Linked, Lost}
use Rattle.hc_peers.specs.declared.peers.Peers.{Peers}
use Rattle.hc_peers.specs.Behind.{brings_news, is_client_heard, is_forward_heard, may_be_written_on}
use Rattle.hc_peers.specs.Peers.{NoLinkIsLeft}
use Rattle.hc_peers.specs.Forwards.{is_linked_and, is_waiting, progress_at}
use Rattle.hc_peers.specs.Knocks.{is_in}
use Rattle.hc_attended.specs.declared.times.TheConstants.{LOOKS_AGAIN}
use Rattle.hc_attended.specs.declared.times.Times.{Times}
use Rattle.hc_attended.specs.Attended.{waits_for_place}
use Rattle.hc_attended.specs.Notes.{is_due_up_to, is_noted_owed, is_seen_to, stands_in_turn}
use Rattle.hc_attended.specs.Settled.{IsSettled, LinkWaitsForOthers, OwesInVain, WaitsForOthers, WaitsForPlace}
use Rattle.hc_attended.proofs.NoteLemmas.{or_cases}

never : {A : Type 0} (b : Bool) → b ≡ false → b ≡ true → A
never b is_false is_true = absurd (true≢false (sym is_true ∙ is_false))

-- ---- where nothing is there

without_any : {A : Type 0} (xs : List A) → length xs ≡ 0 → xs ≡ []
without_any [] none = refl
without_any (x ∷ xs) none = absurd (omega (arith, none))

nobody_there : {V : Type 0} (table : BTreeMap ℕ V) (n : ℕ) → length table.entries ≡ 0 → IfSome (get nat_cmp table n) (λ value. ⊥)
nobody_there {V = V} table n none = subst (λ (es : List (ℕ × V)). IfSome (lookup (is_key (nat_cmp n)) es) (λ value. ⊥)) (sym (without_any table.entries none)) tt

nobody_at : {V A : Type 0} (table : BTreeMap ℕ V) (n : ℕ) (value : V) → length table.entries ≡ 0 → get nat_cmp table n ≡ Some value → A
nobody_at {V = V} table n value none is = absurd (subst (λ (o : Option V). IfSome o (λ other. ⊥)) is (nobody_there table n none))

pub settled_without_links : {S : Type 0} (times : Times) (tick : ℕ) (peers : Peers S) (agenda : Agenda) → NoLinkIsLeft peers → IsFree agenda
    → opened_in peers.places ≡ [] → awaited_in peers.places ≡ [] → unawaited_in peers.places ≡ [] → IsSettled times tick peers agenda
settled_without_links times tick peers agenda none free opened awaited unawaited = record {
  attended = record {
    clients = λ n client is. nobody_at peers.clients.links n client none.clients is;
    forwards = λ f forward is. nobody_at peers.forwards.links f forward none.forwards is;
    lingering = λ f lingerer is. nobody_at peers.lingering.links f lingerer none.lingering is;
    apart = λ f lingerer is. nobody_at peers.lingering.links f lingerer none.lingering is;
    guests = λ n guest is. nobody_at peers.guests.table.links n guest none.guests is;
    turned_away = λ n stream is. nobody_at peers.turned_away.links n stream none.turned_away is;
  };
  noted = free.refused;
  written = free.owed;
  sorted = opened;
  placed = inr (awaited, inl unawaited);
}

-- ---- time

came_by : (o : Option ℕ) (latest : ℕ) → has_come o latest ≡ true → (due : ℕ) × (o ≡ Some due) × (due ≤ latest)
came_by None latest is = never false refl is
came_by (Some due) latest is = (due, refl, in_time)
  where
    in_time : due ≤ latest
    in_time = grind (arith, nat_tests, is)

-- who is due up to a tick is so no later than the first of all
pub first_by : (timeout : Timeout) (n latest : ℕ) (agenda : Agenda) (first : Option ℕ) → IsEarliest (IsToBeDone agenda) first → is_due_up_to timeout n latest agenda ≡ true
    → (due : ℕ) × (first ≡ Some due) × (due ≤ latest)
first_by timeout n latest agenda None earliest is =
    let due = came_by (deadline_at timeout n agenda.deadlines) latest is in absurd (earliest due.0 (inl (timeout, (n, due.1))))
first_by timeout n latest agenda (Some first) earliest is =
    let due = came_by (deadline_at timeout n agenda.deadlines) latest is in (first, refl, le_trans (earliest.1 due.0 (inl (timeout, (n, due.1)))) due.2)

-- ---- turns

same_link : (one other : Receiver) → is_at one other ≡ true → other ≡ one
same_link (to_client n) (to_client m) is = let same : m ≡ n = grind (arith, nat_tests, is) in ap to_client same
same_link (to_client n) (to_origin m) is = never false refl is
same_link (to_origin n) (to_client m) is = never false refl is
same_link (to_origin n) (to_origin m) is = let same : m ≡ n = grind (arith, nat_tests, is) in ap to_origin same

at_first : (x : Receiver) (xs : List Receiver) (link : Receiver) → x ≡ link → Contains (x ∷ xs) link
at_first x xs link is = subst (Contains (x ∷ xs)) is (Contains-append_left (x ∷ []) xs x (Contains-push [] x))

stands_among : (link : Receiver) (xs : List Receiver) → list_any (is_at link) xs ≡ true → Contains xs link
stands_among link [] is = never false refl is
stands_among link (x ∷ xs) is =
    ⊎_elim
    (λ here. at_first x xs link (same_link link x here))
    (λ later. Contains-append_right (x ∷ []) xs link (stands_among link xs later))
    (or_cases (is_at link x) (list_any (is_at link) xs) is)

nothing_noted : {A : Type 0} (link : Receiver) (agenda : Agenda) → owed_in agenda ≡ [] → is_noted_owed link agenda ≡ true → A
nothing_noted link agenda none noted = never (is_noted_owed link agenda) (ap (list_any (is_at link)) none) noted

-- where nothing is noted as owed, what is seen to stands among the turns
in_turn : (link : Receiver) (agenda : Agenda) → owed_in agenda ≡ [] → is_seen_to link agenda ≡ true → Contains (all_of agenda.turns) link
in_turn link agenda none seen =
    ⊎_elim (stands_among link (all_of agenda.turns)) (nothing_noted link agenda none) (or_cases (stands_in_turn link agenda) (is_noted_owed link agenda) seen)

-- ---- clients

-- by whether its link has failed, what is owed, may be written and read, is closed, has ended and is awaited
waits_or : (failed owed writable readable closed ended waits : Bool) (P : Type 0) → ((not failed && (owed && writable)) ≡ true → P)
    → ((readable && (not owed && (closed || (not ended && not waits))) || failed && (closed || not ended)) ≡ true → P)
    → P ⊎ (((owed ≡ true) × (writable ≡ false)) ⊎ (((owed ≡ false) × (readable ≡ false)) ⊎ ((closed ≡ false) × ((waits ≡ true) ⊎ (ended ≡ true)))))
waits_or failed true false readable closed ended waits P write hear = inr (inl (refl, refl))
waits_or false true true readable closed ended waits P write hear = inl (write refl)
waits_or true true true true true ended waits P write hear = inl (hear refl)
waits_or true true true false true ended waits P write hear = inl (hear refl)
waits_or true true true readable false true waits P write hear = inr (inr (inr (refl, inr refl)))
waits_or true true true true false false waits P write hear = inl (hear refl)
waits_or true true true false false false waits P write hear = inl (hear refl)
waits_or failed false writable false closed ended waits P write hear = inr (inr (inl (refl, refl)))
waits_or failed false writable true true ended waits P write hear = inl (hear refl)
waits_or failed false writable true false true waits P write hear = inr (inr (inr (refl, inr refl)))
waits_or failed false writable true false false true P write hear = inr (inr (inr (refl, inl refl)))
waits_or failed false writable true false false false P write hear = inl (hear refl)

-- ---- forwards

heard_or : (ended failed opening readable : Bool) (P Q : Type 0) → ((not ended && (failed || (not opening && readable))) ≡ true → P)
    → P ⊎ (Q ⊎ ((opening ≡ true) ⊎ ((not readable ≡ true) ⊎ (ended ≡ true))))
heard_or true failed opening readable P Q hear = inr (inr (inr (inr refl)))
heard_or false true opening readable P Q hear = inl (hear refl)
heard_or false false true readable P Q hear = inr (inr (inl refl))
heard_or false false false true P Q hear = inl (hear refl)
heard_or false false false false P Q hear = inr (inr (inr (inl refl)))

lost_or : (ended : Bool) (P Q R T : Type 0) → ((not ended && true) ≡ true → P) → P ⊎ (Q ⊎ (R ⊎ (T ⊎ (ended ≡ true))))
lost_or true P Q R T hear = inr (inr (inr (inr refl)))
lost_or false P Q R T hear = inl (hear refl)

link_goes_on : {S : Type 0} (ended : Bool) (reaching : Reaching S) (P Q : Type 0) → ((not ended && brings_news reaching) ≡ true → P) → (is_waiting reaching ≡ true → Q)
    → P ⊎ (((is_waiting reaching ≡ true) × Q) ⊎ LinkWaitsForOthers ended reaching)
link_goes_on ended (Awaiting request) P Q hear wait = inr (inl (refl, wait refl))
link_goes_on ended (Linked link) P Q hear wait = heard_or ended link.flow.failed (is_some link.spare) link.flow.readable P ((false ≡ true) × Q) hear
link_goes_on ended (Lost reason) P Q hear wait = lost_or ended P ((false ≡ true) × Q) (false ≡ true) (false ≡ true) hear

owed_or : (failed opening owed writable : Bool) → ((not opening && (not failed && (owed && writable))) ≡ true → ⊥) → owed ≡ true
    → (failed ≡ true) ⊎ ((opening ≡ true) ⊎ (not writable ≡ true))
owed_or true opening owed writable write is = inl refl
owed_or false true owed writable write is = inr (inl refl)
owed_or false false true true write is = absurd (write refl)
owed_or false false true false write is = inr (inr refl)
owed_or false false false writable write is = never false refl is

owes_in_vain : {S : Type 0} (reaching : Reaching S) → (may_be_written_on reaching ≡ true → ⊥) → is_linked_and reaching (λ link. is_owed link.flow) ≡ true → OwesInVain reaching
owes_in_vain (Awaiting request) write is = never false refl is
owes_in_vain (Linked link) write is = owed_or link.flow.failed (is_some link.spare) (is_owed link.flow) link.flow.writable write is
owes_in_vain (Lost reason) write is = never false refl is

-- ---- places

and_both : (a b : Bool) → (a && b) ≡ true → (a ≡ true) × (b ≡ true)
and_both true b is = (refl, is)
and_both false b is = never false refl is

nobody_in : {A : Type 0} (f : ℕ) (line : List ℕ) → line ≡ [] → is_in f line ≡ true → A
nobody_in f line none is = never (is_in f line) (ap (is_in f) none) is

stands_without_place : (f : ℕ) (places : Places) → IsNext places None → (is_in f (awaited_in places) ≡ true) ⊎ (is_in f (unawaited_in places) ≡ true)
    → ((is_in f (awaited_in places) ≡ true) × IsFull places) ⊎ ((is_in f (unawaited_in places) ≡ true) × NoPlaceIsLeftBehind places)
stands_without_place f places (inl full) (inl awaited) = inl (awaited, full)
stands_without_place f places (inl full) (inr unawaited) = inr (unawaited, inl full)
stands_without_place f places (inr none) (inl awaited) = nobody_in f (awaited_in places) none.0 awaited
stands_without_place f places (inr none) (inr unawaited) = ⊎_elim (λ nobody. nobody_in f (unawaited_in places) nobody unawaited) (λ full. inr (unawaited, full)) none.1

placed_none : (f : ℕ) (times : Times) (tick : ℕ) (places : Places) (agenda : Agenda) → opened_in places ≡ [] → IsNext places None
    → waits_for_place f times tick places agenda ≡ true → WaitsForPlace f times tick places agenda
placed_none f times tick places agenda sorted placed waits =
    ⊎_elim (nobody_in f (opened_in places) sorted) (λ in_line.
    let both = and_both (is_in f (awaited_in places) || is_in f (unawaited_in places)) (is_due_up_to timeouts.Place f (tick + times.queue_timeout) agenda) in_line in
    (stands_without_place f places placed (or_cases (is_in f (awaited_in places)) (is_in f (unawaited_in places)) both.0), both.1))
    (or_cases
    (is_in f (opened_in places)) ((is_in f (awaited_in places) || is_in f (unawaited_in places)) && is_due_up_to timeouts.Place f (tick + times.queue_timeout) agenda) waits)

-- ---- where a crowd waits

module _ {S : Type 0} (times : Times) (tick : ℕ) (peers : Peers S) (agenda : Agenda) where
  pub client_goes_on : (n : ℕ) (client : Client S) → IsSettled times tick peers agenda → get nat_cmp peers.clients.links n ≡ Some client
      → (Contains (all_of agenda.turns) (to_client n) ⊎ WaitsForOthers client)
      × (is_due_up_to timeouts.Client n (max (next_look client.pace tick times.patience) (tick + LOOKS_AGAIN)) agenda ≡ true)
  client_goes_on n client settled is =
      let c = settled.attended.clients n client is in (
        waits_or client.flow.failed (is_owed client.flow) client.flow.writable client.flow.readable client.closed client.ended client.waits
            (Contains (all_of agenda.turns) (to_client n))
            (λ may. nothing_noted (to_client n) agenda settled.written (c.seen.written may)) (λ hear. in_turn (to_client n) agenda settled.written (c.seen.heard hear)),
        c.due,
      )

  pub client_has_a_turn : (n : ℕ) (client : Client S) → IsSettled times tick peers agenda → get nat_cmp peers.clients.links n ≡ Some client → is_client_heard client ≡ true
      → (steps : List Step) (after : Waiting) → IsBatch steps agenda.turns after → Contains (turns_of steps) (to_client n)
  client_has_a_turn n client settled is hear steps after batch =
      each_has_its_turn steps agenda.turns after batch (to_client n) (in_turn (to_client n) agenda settled.written ((settled.attended.clients n client is).seen.heard hear))

  pub forward_goes_on : (f : ℕ) (forward : Forward S) → IsSettled times tick peers agenda → get nat_cmp peers.forwards.links f ≡ Some forward
      → Contains (all_of agenda.turns) (to_origin f) ⊎ (((is_waiting forward.reaching ≡ true) × WaitsForPlace f times tick peers.places agenda)
      ⊎ LinkWaitsForOthers forward.ended forward.reaching)
  forward_goes_on f forward settled is =
      let s = settled.attended.forwards f forward is in
      link_goes_on forward.ended forward.reaching (Contains (all_of agenda.turns) (to_origin f)) (WaitsForPlace f times tick peers.places agenda)
      (λ hear. in_turn (to_origin f) agenda settled.written (s.seen.heard hear))
      (λ waits. placed_none f times tick peers.places agenda settled.sorted settled.placed (s.timed.waits waits))

  pub forward_in_time : (f : ℕ) (forward : Forward S) (progress : ForwardProgress) → IsSettled times tick peers agenda → get nat_cmp peers.forwards.links f ≡ Some forward
      → progress_at forward.reaching ≡ Some progress → is_due_up_to timeouts.Origin f (forward_due progress times.patience + 1) agenda ≡ true
  forward_in_time f forward progress settled is there = (settled.attended.forwards f forward is).timed.due progress there

  pub forward_owes_in_vain : (f : ℕ) (forward : Forward S) → IsSettled times tick peers agenda → get nat_cmp peers.forwards.links f ≡ Some forward
      → is_linked_and forward.reaching (λ link. is_owed link.flow) ≡ true → OwesInVain forward.reaching
  forward_owes_in_vain f forward settled is owed =
      owes_in_vain forward.reaching (λ may. nothing_noted (to_origin f) agenda settled.written ((settled.attended.forwards f forward is).seen.written may)) owed

  pub forward_has_a_turn : (f : ℕ) (forward : Forward S) → IsSettled times tick peers agenda → get nat_cmp peers.forwards.links f ≡ Some forward → is_forward_heard forward ≡ true
      → (steps : List Step) (after : Waiting) → IsBatch steps agenda.turns after → Contains (turns_of steps) (to_origin f)
  forward_has_a_turn f forward settled is hear steps after batch =
      each_has_its_turn steps agenda.turns after batch (to_origin f) (in_turn (to_origin f) agenda settled.written ((settled.attended.forwards f forward is).seen.heard hear))
