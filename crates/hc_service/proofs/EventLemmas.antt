-- A served event keeps agreement: its turns do, what comes with them is what comes with the event, and nothing that can be read is left.
use Rattle.std.proofs.Common.{◌≡◌, ℕ, ◌≤◌, Bool, true, false, cond, not, List, [], ◌∷◌, ◌++◌, map, option_and_then, nat_lt, Option, Some, None, refl, sym, ap, ◌∙◌, subst, arith, inl, inr, ⊎_elim}
use Rattle.std.specs.FinMap.{get, insert, remove}
use Rattle.std.specs.List.{AllByRecursion}
use Rattle.std.specs.Option.{IsSome}
use Rattle.std.proofs.lemmas.Bool.{cases_Bool, cases_eq, ltb-false}
use Rattle.hc_transcript.specs.Limits.{greatest_number, greatest_moment}
use Rattle.hc_service.specs.declared.event.Event.{Event}
use Rattle.hc_service.specs.declared.event.Happening.{Happening}
use Rattle.hc_service.specs.declared.event.Happening.TheVariants.{ClientOpened, ClientBytes, ClientEnd, OriginBytes, OriginEnd, OriginFailed, Stopping as ToStop}
use Rattle.hc_service.specs.declared.action.Action.{Action}
use Rattle.hc_service.specs.declared.fault.StepFault.TheVariants.{MomentTooLarge, UnknownNumber, TooManyConnections}
use Rattle.hc_service.specs.declared.open.OpenExchange.{OpenExchange}
use Rattle.hc_service.specs.declared.open.OpenForward.{OpenForward}
use Rattle.hc_service.specs.declared.open.Purpose.{Purpose}
use Rattle.hc_service.specs.declared.open.Purpose.TheVariants as purpose
use Rattle.hc_service.specs.declared.settings.CoreSettings.{CoreSettings}
use Rattle.hc_service.specs.Settings.{AreGood}
use Rattle.hc_service.specs.Numbers.{at_moment}
use Rattle.hc_service.specs.State.{State, Table, Connection, Awaited, exchange_for, new_connection}
use Rattle.hc_service.specs.Joining.{waiting_for}
use Rattle.hc_service.specs.Turns.{after_client_octets, after_origin_octets, after_leaving, OriginSends, Failure}
use Rattle.hc_service.specs.Turns.Failure.{IsBroken, IsCutOff, IsLost}
use Rattle.hc_service.specs.Serves.{Turn, Takes, Run, Reads, ReadsOn, ReadsOnAll, clients_of, connections_of, listed, IsQuietAt, IsQuietBy, AwaitsStill, OwesEnd, OwesReply, OwesAnswer, Owes, passed_to, is_known, is_full, first_fault, Serves}
use Rattle.hc_service.specs.Serves.Turn.{Opening, ClientSending, Asking, Refusal, Dropping, Leaving, Closing, OriginSending, Answering, Failing, Releasing, Stopping}
use Rattle.hc_service.specs.Agreement.{History, AreCounted, KeepsPurpose, IsConsistent, IsQuiet, IsAwaiting, Agrees, HasExchange, IsReady}
use Rattle.hc_service.specs.Runs.{client_octets_by, client_octets_with, origin_octets_by, origin_octets_with}
use Rattle.hc_service.specs.LowerLaws.{ForwardLaws}
use Rattle.hc_service.specs.Laws.{client_octets_all, origin_octets_all, KeepsAgreement}
use Rattle.hc_service.proofs.TableLemmas.{get_same, get_gone, was_put}
use Rattle.hc_service.proofs.LinkLemmas.{none_some, one_of}
use Rattle.hc_service.proofs.StepLemmas.{run_keeps}
use Rattle.hc_service.proofs.QuietLemmas.{nothing_read, KeepsOthers, KeepsBeside, IsAwaitingBut, others_put, others_out, others_then, forwards_same, ended_then, readings_keep, run_split, clients_keep, answering_keeps, failing_keeps, releases_keep, waiters_among, quiet_by, read_quietly, awaiting_by, awaiting_without}

-- ---- the moment has come

in_time : (event : Event) (s : State) → first_fault event s ≡ None → event.moment ≤ greatest_moment
in_time event s none =
    ⊎_elim
    (λ (late : nat_lt greatest_moment event.moment ≡ true). absurd (none_some (first_fault event s) MomentTooLarge none
    (ap (λ (b : Bool). cond b (Some MomentTooLarge) (cond (not (is_known event.of s)) (Some UnknownNumber) (cond (is_full event.of s) (Some TooManyConnections) None))) late)))
    (λ (early : nat_lt greatest_moment event.moment ≡ false). let le = ltb-false greatest_moment event.moment early in omega arith)
    (cases_Bool (nat_lt greatest_moment event.moment))

passed_counted : (moment : ℕ) (s : State) (h : History) → moment ≤ greatest_moment → AreCounted s.numbers h → AreCounted (at_moment moment s.numbers) h
passed_counted moment s h le a = record {
  are_read = a.are_read;
  records = a.records;
  exchange = a.exchange;
  forward = a.forward;
  moment = omega (arith, a.moment);
  exchanges = a.exchanges;
  forwards = a.forwards;
  in_range = a.in_range;
  in_time = omega (arith, a.in_time);
}

passed_consistent : (moment : ℕ) (s : State) (h : History) → moment ≤ greatest_moment → IsConsistent s h → IsConsistent (passed_to moment s) h
passed_consistent moment s h le a = record {
  counted = passed_counted moment s h le a.counted;
  since = a.since;
  entries = a.entries;
  keys = a.keys;
  received = a.received;
  asked = a.asked;
  linked = a.linked;
  waiting = a.waiting;
  few = a.few;
}

-- ---- what comes with turns

abbrev BringNothing : List Turn → Type 0
BringNothing turns = ((before : ℕ → List ℕ) → client_octets_all turns before ≡ before) × ((before : ℕ → List ℕ) → origin_octets_all turns before ≡ before)

readings_bring : (c : ℕ) (turns : List Turn) → AllByRecursion (Reads c) turns → BringNothing turns
readings_bring c [] reads = (λ before. refl, λ before. refl)
readings_bring c (Asking d ∷ turns) reads = readings_bring c turns reads.1
readings_bring c (Refusal d status ∷ turns) reads = readings_bring c turns reads.1
readings_bring c (Dropping d ∷ turns) reads = readings_bring c turns reads.1
readings_bring c (Opening d ∷ turns) reads = absurd reads.0
readings_bring c (ClientSending d octets ∷ turns) reads = absurd reads.0
readings_bring c (Leaving d ∷ turns) reads = absurd reads.0
readings_bring c (Closing d ∷ turns) reads = absurd reads.0
readings_bring c (OriginSending f octets ∷ turns) reads = absurd reads.0
readings_bring c (Answering f ended ∷ turns) reads = absurd reads.0
readings_bring c (Failing f how ∷ turns) reads = absurd reads.0
readings_bring c (Releasing e ∷ turns) reads = absurd reads.0
readings_bring c (Stopping ∷ turns) reads = absurd reads.0

both_bring : (turns more : List Turn) → BringNothing turns → BringNothing more → BringNothing (turns ++ more)
both_bring turns more one other = (
  λ before. client_append turns more before ∙ ap (client_octets_all more) (one.0 before) ∙ other.0 before,
  λ before. origin_append turns more before ∙ ap (origin_octets_all more) (one.1 before) ∙ other.1 before,
)
  where
    client_append : (turns more : List Turn) (before : ℕ → List ℕ) → client_octets_all (turns ++ more) before ≡ client_octets_all more (client_octets_all turns before)
    client_append [] more before = refl
    client_append (turn ∷ turns) more before = client_append turns more (client_octets_with turn before)

    origin_append : (turns more : List Turn) (before : ℕ → List ℕ) → origin_octets_all (turns ++ more) before ≡ origin_octets_all more (origin_octets_all turns before)
    origin_append [] more before = refl
    origin_append (turn ∷ turns) more before = origin_append turns more (origin_octets_with turn before)

clients_bring : (clients : List ℕ) (turns : List Turn) (s' : State) → ReadsOnAll clients turns s' → BringNothing turns
clients_bring [] turns s' reads = subst BringNothing (sym reads) (λ before. refl, λ before. refl)
clients_bring (c ∷ clients) turns s' reads =
    subst BringNothing (sym reads.2) (both_bring reads.0 reads.1 (readings_bring c reads.0 reads.3.0) (clients_bring clients reads.1 s' reads.4))

releases_bring : (numbers : List ℕ) → BringNothing (map Releasing numbers)
releases_bring [] = (λ before. refl, λ before. refl)
releases_bring (e ∷ numbers) = releases_bring numbers

rest_brings : (f : ℕ) (readings : List Turn) (s s' : State) → ReadsOnAll (clients_of f s) readings s' → BringNothing (map Releasing (waiting_for f s.exchanges) ++ readings)
rest_brings f readings s s' reads =
    both_bring (map Releasing (waiting_for f s.exchanges)) readings (releases_bring (waiting_for f s.exchanges)) (clients_bring (clients_of f s) readings s' reads)

-- the turns bring what has happened
record BringThat (happening : Happening) (turns : List Turn) : Type 0 where
  client_octets : (before : ℕ → List ℕ) → client_octets_all turns before ≡ client_octets_by happening before
  origin_octets : (before : ℕ → List ℕ) → origin_octets_all turns before ≡ origin_octets_by happening before

end_brings : (c : ℕ) (leaves : Bool) (exchange : Option ℕ) (turns : List Turn) → OwesEnd c leaves exchange turns → BringNothing turns
end_brings c true exchange turns owes = subst BringNothing (sym owes) (λ before. refl, λ before. refl)
end_brings c false (Some e) turns owes = subst BringNothing (sym owes) (λ before. refl, λ before. refl)
end_brings c false None turns (inl owes) = subst BringNothing (sym owes) (λ before. refl, λ before. refl)
end_brings c false None turns (inr owes) = subst BringNothing (sym owes.1) (λ before. refl, λ before. refl)

answer_brings : (f : ℕ) (ended : Bool) (turns : List Turn) (s s' : State) → OwesReply f (Answering f ended) turns s s' → BringNothing turns
answer_brings f ended turns s s' owes = subst BringNothing (sym owes.1) (let more = rest_brings f owes.0 s s' owes.2 in (more.0, more.1))

failure_brings : (f : ℕ) (how : Failure) (turns : List Turn) (s s' : State) → OwesReply f (Failing f how) turns s s' → BringNothing turns
failure_brings f how turns s s' owes = subst BringNothing (sym owes.1) (let more = rest_brings f owes.0 s s' owes.2 in (more.0, more.1))

more_brings : (f : ℕ) (turns : List Turn) (s s' : State) → OwesAnswer f turns s s' → BringNothing turns
more_brings f turns s s' (inl none) = subst BringNothing (sym none.0) (λ before. refl, λ before. refl)
more_brings f turns s s' (inr (inl owes)) = answer_brings f false turns s s' owes
more_brings f turns s s' (inr (inr owes)) = failure_brings f IsBroken turns s s' owes

event_brings : (happening : Happening) (turns : List Turn) (s s' : State) → Owes happening turns s s' → BringThat happening turns
event_brings (ClientOpened c) turns s s' owes = subst (BringThat (ClientOpened c)) (sym owes) (record { client_octets = λ before. refl; origin_octets = λ before. refl })
event_brings (ClientBytes c octets) turns s s' owes =
    let more = readings_bring c owes.0 owes.2.0 in
    subst (BringThat (ClientBytes c octets)) (sym owes.1)
    (record { client_octets = λ before. more.0 (client_octets_by (ClientBytes c octets) before); origin_octets = λ before. more.1 before })
event_brings (ClientEnd c) turns s s' owes = let none = end_brings c owes.0.leaves owes.0.exchange turns owes.2 in record { client_octets = none.0; origin_octets = none.1 }
event_brings (OriginBytes f octets) turns s s' owes =
    let more = more_brings f owes.0 s s' owes.2 in
    subst (BringThat (OriginBytes f octets)) (sym owes.1)
    (record { client_octets = λ before. more.0 before; origin_octets = λ before. more.1 (origin_octets_by (OriginBytes f octets) before) })
event_brings (OriginEnd f) turns s s' (inl owes) = let none = answer_brings f true turns s s' owes in record { client_octets = none.0; origin_octets = none.1 }
event_brings (OriginEnd f) turns s s' (inr owes) = let none = failure_brings f IsCutOff turns s s' owes in record { client_octets = none.0; origin_octets = none.1 }
event_brings (OriginFailed f) turns s s' owes = let none = failure_brings f IsLost turns s s' owes in record { client_octets = none.0; origin_octets = none.1 }
event_brings ToStop turns s s' owes = subst (BringThat ToStop) (sym owes) (record { client_octets = λ before. refl; origin_octets = λ before. refl })

-- ---- nothing is left unread

abbrev IsRead : State → Type 0
IsRead s = IsQuiet s × IsAwaiting s

-- one turn alone
one_turn : (settings : CoreSettings) (turn : Turn) (turns : List Turn) (s : State) (actions : List Action) (s' : State) → turns ≡ turn ∷ [] → Run settings turns s actions s'
    → (first : List Action) × Takes settings turn s first s'
one_turn settings turn turns s actions s' is r =
    let one = subst (λ (turns : List Turn). Run settings turns s actions s') is r in
    (one.1, subst (λ (mid : State). Takes settings turn s one.1 mid) (sym one.5.1) one.3)

no_turn : (settings : CoreSettings) (turns : List Turn) (s : State) (actions : List Action) (s' : State) → turns ≡ [] → Run settings turns s actions s' → s' ≡ s
no_turn settings turns s actions s' is r = (subst (λ (turns : List Turn). Run settings turns s actions s') is r).1

quiet_put : (c : ℕ) (k : Connection) (s s' : State) → s'.connections ≡ insert s.connections c k → IsQuietBy k.exchange k.unread → IsQuietAt c s'
quiet_put c k s s' same quiet q is =
    subst (λ (z : Connection). IsQuietBy z.exchange z.unread)
    (one_of (get (insert s.connections c k) c) k q (get_same s.connections c k) (sym (ap (λ (t : Table Connection). get t c) same) ∙ is)) quiet

quiet_out : (c : ℕ) (s s' : State) → s'.connections ≡ remove s.connections c → IsQuietAt c s'
quiet_out c s s' same q is = absurd (none_some (get (remove s.connections c) c) q (get_gone s.connections c) (sym (ap (λ (t : Table Connection). get t c) same) ∙ is))

quiet_at : (c : ℕ) (s s' : State) → KeepsOthers (c ∷ []) s s' → IsQuiet s → IsQuietAt c s' → IsQuiet s'
quiet_at c s s' keeps quiet there =
    quiet_by (c ∷ []) s s' keeps quiet (λ d is. ⊎_elim (λ (same : c ≡ d). subst (λ (n : ℕ). IsQuietAt n s') same there) (λ (none : ⊥). absurd none) is)

-- whoever serves the cache stops
stopped_read : (settings : CoreSettings) (turns : List Turn) (s : State) (actions : List Action) (s' : State) → turns ≡ Stopping ∷ [] → Run settings turns s actions s'
    → IsQuiet s → IsAwaiting s → IsRead s'
stopped_read settings turns s actions s' is r quiet awaiting =
    let t = (one_turn settings Stopping turns s actions s' is r).1 in (
      λ c k there. quiet c k (sym (ap (λ (t : Table Connection). get t c) t.keeps.connections) ∙ there),
      awaiting_by s s' (forwards_same s s' t.keeps.forwards) awaiting,
    )

-- a connection opens
opened_read : (settings : CoreSettings) (c : ℕ) (turns : List Turn) (s : State) (actions : List Action) (s' : State) → turns ≡ Opening c ∷ [] → Run settings turns s actions s'
    → IsQuiet s → IsAwaiting s → IsRead s'
opened_read settings c turns s actions s' is r quiet awaiting =
    let t = (one_turn settings (Opening c) turns s actions s' is r).1 in (
      quiet_at c s s' (others_put c new_connection s s' t.connections) quiet (quiet_put c new_connection s s' t.connections nothing_read),
      awaiting_by s s' (forwards_same s s' t.keeps.forwards) awaiting,
    )

-- octets come on it
client_sent_read : (settings : CoreSettings) (c : ℕ) (octets : List ℕ) (readings : List Turn) (s : State) (actions : List Action) (s' : State) → ReadsOn c readings s'
    → Run settings (ClientSending c octets ∷ readings) s actions s' → IsQuiet s → IsAwaiting s → IsRead s'
client_sent_read settings c octets readings s actions s' reads r quiet awaiting =
    let more = readings_keep settings c readings r.0 r.2 s' reads.0 r.5 in (
      quiet_at c s s' (others_then (c ∷ []) s r.0 s' (others_put c (after_client_octets octets r.3.connection) s r.0 r.3.connections) more.0) quiet reads.1,
      awaiting_by r.0 s' more.1 (awaiting_by s r.0 (forwards_same s r.0 r.3.keeps.forwards) awaiting),
    )

-- it ends
left_read : (settings : CoreSettings) (c : ℕ) (leaves : Bool) (exchange : Option ℕ) (turns : List Turn) (s : State) (actions : List Action) (s' : State) → OwesEnd c leaves exchange turns
    → Run settings turns s actions s' → IsQuiet s → IsAwaiting s → IsRead s'
left_read settings c true exchange turns s actions s' owes r quiet awaiting = subst IsRead (sym (no_turn settings turns s actions s' owes r)) (quiet, awaiting)
left_read settings c false (Some e) turns s actions s' owes r quiet awaiting =
    let t = (one_turn settings (Leaving c) turns s actions s' owes r).1 in (
      quiet_at c s s' (others_put c (after_leaving t.connection) s s' t.connections) quiet
          (quiet_put c (after_leaving t.connection) s s' t.connections (subst (λ (o : Option ℕ). IsQuietBy o []) (sym t.awaits) (omega arith))),
      awaiting_by s s' (forwards_same s s' t.keeps.forwards) awaiting,
    )
left_read settings c false None turns s actions s' (inl owes) r quiet awaiting =
    let t = (one_turn settings (Closing c) turns s actions s' owes r).1 in
    (quiet_at c s s' (others_out c s s' t.connections) quiet (quiet_out c s s' t.connections), awaiting_by s s' (forwards_same s s' t.keeps.forwards) awaiting)
left_read settings c false None turns s actions s' (inr owes) r quiet awaiting =
    let t = (one_turn settings (Refusal c owes.0) turns s actions s' owes.1 r).1 in
    (quiet_at c s s' (others_out c s s' t.connections) quiet (quiet_out c s s' t.connections), awaiting_by s s' (forwards_same s s' t.keeps.forwards) awaiting)

-- a forward ends, those that waited for it are released, and behind that the clients of all whom it answers are read
ended_read : (settings : CoreSettings) (f : ℕ) (turn : Turn) (readings : List Turn) (s : State) (actions : List Action) (s' : State)
    → ((first : List Action) (mid : State) → Takes settings turn s first mid → KeepsBeside f s mid) → ReadsOnAll (clients_of f s) readings s'
    → Run settings (turn ∷ (map Releasing (waiting_for f s.exchanges) ++ readings)) s actions s' → IsQuiet s → IsAwaitingBut f s → IsRead s'
ended_read settings f turn readings s actions s' ends reads r quiet awaiting =
    let clients = clients_of f s in
    let one = ends r.1 r.0 r.3 in
    let parts = run_split settings (map Releasing (waiting_for f s.exchanges)) readings r.0 r.2 s' r.5 in
    let freed = releases_keep settings clients (waiting_for f s.exchanges) s r.0 parts.1 parts.0 (waiters_among f s) one.on parts.3 in
    let more = clients_keep settings clients readings parts.0 parts.2 s' reads parts.4 in (
      quiet_by clients s s' (others_then clients s r.0 s' one.others (others_then clients r.0 parts.0 s' freed.0 more.0)) quiet (read_quietly clients readings s' reads),
      awaiting_without f s s' (ended_then f s parts.0 s' (ended_then f s r.0 parts.0 one.ends freed.1) more.1) awaiting,
    )

answered_read : (settings : CoreSettings) (f : ℕ) (ended : Bool) (turns : List Turn) (s : State) (actions : List Action) (s' : State) → OwesReply f (Answering f ended) turns s s'
    → Run settings turns s actions s' → IsQuiet s → IsAwaitingBut f s → IsRead s'
answered_read settings f ended turns s actions s' owes r quiet awaiting =
    ended_read settings f (Answering f ended) owes.0 s actions s' (λ first mid t. answering_keeps settings f ended s first mid t) owes.2
    (subst (λ (turns : List Turn). Run settings turns s actions s') owes.1 r) quiet awaiting

failed_read : (settings : CoreSettings) (f : ℕ) (how : Failure) (turns : List Turn) (s : State) (actions : List Action) (s' : State) → OwesReply f (Failing f how) turns s s'
    → Run settings turns s actions s' → IsQuiet s → IsAwaitingBut f s → IsRead s'
failed_read settings f how turns s actions s' owes r quiet awaiting =
    ended_read settings f (Failing f how) owes.0 s actions s' (λ first mid t. failing_keeps settings f how s first mid t) owes.2
    (subst (λ (turns : List Turn). Run settings turns s actions s') owes.1 r) quiet awaiting

-- octets come from the origin
module _ (f : ℕ) (octets : List ℕ) (s : State) (given : List Action) (mid : State) (t : OriginSends f octets s given mid) where
  origin_sent_quiet : IsQuiet s → IsQuiet mid
  origin_sent_quiet quiet c k is = quiet c k (sym (ap (λ (t : Table Connection). get t c) t.keeps.connections) ∙ is)

  origin_sent_awaiting : IsAwaiting s → IsAwaitingBut f mid
  origin_sent_awaiting awaiting g other a is =
      ⊎_elim
      (λ (p : (f ≡ g) × (after_origin_octets octets t.awaited ≡ a)). absurd (other p.0))
      (λ (p : (f ≡ g → ⊥) × (get s.forwards g ≡ Some a)). awaiting g a p.1)
      (was_put s.forwards f (after_origin_octets octets t.awaited) g a (sym (ap (λ (t : Table Awaited). get t g) t.forwards) ∙ is))

  -- whom its end answers
  origin_sent_clients : clients_of f s ≡ clients_of f mid
  origin_sent_clients =
      let now : get mid.forwards f ≡ Some (after_origin_octets octets t.awaited) =
      ap (λ (t : Table Awaited). get t f) t.forwards ∙ get_same s.forwards f (after_origin_octets octets t.awaited) in
      ap (λ (o : Option Awaited). connections_of s.exchanges (listed (option_and_then (λ (awaited : Awaited). exchange_for awaited.forward.purpose) o) ++ waiting_for f s.exchanges)) t.is_open
      ∙ sym (ap (λ (o : Option Awaited). connections_of s.exchanges (listed (option_and_then (λ (awaited : Awaited). exchange_for awaited.forward.purpose) o) ++ waiting_for f s.exchanges)) now)
      ∙ ap (λ (xs : Table OpenExchange). connections_of xs (listed (option_and_then (λ (awaited : Awaited). exchange_for awaited.forward.purpose) (get mid.forwards f)) ++ waiting_for f xs))
      (sym t.keeps.exchanges)

  origin_sent_owes : (turn : Turn) (turns : List Turn) (s' : State) → OwesReply f turn turns s s' → OwesReply f turn turns mid s'
  origin_sent_owes turn turns s' owes = (
    owes.0,
    owes.1 ∙ ap (λ (xs : Table OpenExchange). turn ∷ (map Releasing (waiting_for f xs) ++ owes.0)) (sym t.keeps.exchanges),
    subst (λ (clients : List ℕ). ReadsOnAll clients owes.0 s') origin_sent_clients owes.2,
  )

  -- what is owed then
  origin_sent_then : (settings : CoreSettings) (more : List Turn) (rest : List Action) (s' : State) → OwesAnswer f more s s' → Run settings more mid rest s' → IsQuiet s → IsAwaiting s → IsRead s'
  origin_sent_then settings more rest s' (inl none) r quiet awaiting =
      let same = no_turn settings more mid rest s' none.0 r in (
        subst IsQuiet (sym same) (origin_sent_quiet quiet),
        λ g a is.
            ⊎_elim
            (λ (here : f ≡ g). subst (λ (n : ℕ). AwaitsStill n s') here none.1 a is)
            (λ (other : f ≡ g → ⊥). subst (IsAwaitingBut f) (sym same) (origin_sent_awaiting awaiting) g other a is)
            (cases_eq f g),
      )
  origin_sent_then settings more rest s' (inr (inl owes)) r quiet awaiting =
      answered_read settings f false more mid rest s' (origin_sent_owes (Answering f false) more s' owes) r (origin_sent_quiet quiet) (origin_sent_awaiting awaiting)
  origin_sent_then settings more rest s' (inr (inr owes)) r quiet awaiting =
      failed_read settings f IsBroken more mid rest s' (origin_sent_owes (Failing f IsBroken) more s' owes) r (origin_sent_quiet quiet) (origin_sent_awaiting awaiting)

event_read : (settings : CoreSettings) (moment : ℕ) (happening : Happening) (turns : List Turn) (s : State) (actions : List Action) (s' : State) → Owes happening turns s s'
    → Run settings turns (passed_to moment s) actions s' → IsQuiet s → IsAwaiting s → IsRead s'
event_read settings moment (ClientOpened c) turns s actions s' owes r quiet awaiting = opened_read settings c turns (passed_to moment s) actions s' owes r quiet awaiting
event_read settings moment (ClientBytes c octets) turns s actions s' owes r quiet awaiting =
    client_sent_read settings c octets owes.0 (passed_to moment s) actions s' owes.2 (subst (λ (turns : List Turn). Run settings turns (passed_to moment s) actions s') owes.1 r) quiet awaiting
event_read settings moment (ClientEnd c) turns s actions s' owes r quiet awaiting =
    left_read settings c owes.0.leaves owes.0.exchange turns (passed_to moment s) actions s' owes.2 r quiet awaiting
event_read settings moment (OriginBytes f octets) turns s actions s' owes r quiet awaiting =
    let run = subst (λ (turns : List Turn). Run settings turns (passed_to moment s) actions s') owes.1 r in
    origin_sent_then f octets (passed_to moment s) run.1 run.0 run.3 settings owes.0 run.2 s' owes.2 run.5 quiet awaiting
event_read settings moment (OriginEnd f) turns s actions s' (inl owes) r quiet awaiting =
    answered_read settings f true turns (passed_to moment s) actions s' owes r quiet (λ g other. awaiting g)
event_read settings moment (OriginEnd f) turns s actions s' (inr owes) r quiet awaiting =
    failed_read settings f IsCutOff turns (passed_to moment s) actions s' owes r quiet (λ g other. awaiting g)
event_read settings moment (OriginFailed f) turns s actions s' owes r quiet awaiting =
    failed_read settings f IsLost turns (passed_to moment s) actions s' owes r quiet (λ g other. awaiting g)
event_read settings moment ToStop turns s actions s' owes r quiet awaiting = stopped_read settings turns (passed_to moment s) actions s' owes r quiet awaiting

-- ---- all

pub event_keeps : (settings : CoreSettings) → AreGood settings → ForwardLaws → (event : Event) (s : State) (actions : List Action) (s' : State) (h : History) → Agrees s h
    → Serves settings event s actions s' → s'.numbers.records ≤ greatest_number → KeepsAgreement event.of actions h s'
event_keeps settings good laws event s actions s' h a v le =
    let ks = run_keeps settings good laws v.turns (passed_to event.moment s) actions s' h (passed_consistent event.moment s h (in_time event s v.is_served) a.consistent) v.run le in
    let brings = event_brings event.of v.turns s s' v.owes in
    let read = event_read settings event.moment event.of v.turns s actions s' v.owes v.run a.quiet a.awaiting in
    record {
      later = ks.later;
      goes_on = record {
        records = ks.goes_on.records;
        client_octets = ks.goes_on.client_octets ∙ brings.client_octets h.client_octets;
        origin_octets = ks.goes_on.origin_octets ∙ brings.origin_octets h.origin_octets;
      };
      agrees = record { consistent = ks.consistent; quiet = read.0; awaiting = read.1 };
    }

-- ---- what a cache that agrees is ready for

pub agreement_ready : (s : State) (h : History) → Agrees s h → IsReady s
agreement_ready s h a = record {
  exchanges = λ f w is. by_purpose w.forward.purpose w.forward (a.consistent.asked.purposes f w is);
  alone = λ f e w x is for_it there. waits_not x.waits_for (λ g waits. a.consistent.waiting.own e g f x w there waits is for_it);
  connections = λ e x is. let on = a.consistent.linked.on_connections e x is in record { connection = on.connection; is_open = on.is_open; awaits = on.awaits };
}
  where
    waits_not : (o : Option ℕ) → ((g : ℕ) → o ≡ Some g → ⊥) → o ≡ None
    waits_not None none = refl
    waits_not (Some g) none = absurd (none g refl)

    by_purpose : (p : Purpose) (forward : OpenForward) → KeepsPurpose s.exchanges p forward → HasExchange s.exchanges p
    by_purpose purpose.Background forward keeps = tt
    by_purpose (purpose.Reply e why kind) forward keeps = subst IsSome (sym keeps.is_open) refl
