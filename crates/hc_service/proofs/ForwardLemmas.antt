-- Each open exchange has an open forward, and who waits, waits until the end of the one that it waits for.
use Rattle.std.proofs.Common.{◌≡◌, ℕ, ◌+◌, ◌≤◌, ◌<◌, Bool, true, false, List, [], ◌∷◌, ◌++◌, map, Option, Some, None, Ok, Err, refl, sym, ap, ◌∙◌, subst, arith, T, ◌&&◌, cond, inl, inr, ⊎_elim, ◌⊎◌}
use Rattle.std.specs.Cmp.{eq_by_cmp_equiv, nat_cmp_total}
use Rattle.std.specs.FinMap.{entries, entries_sorted, get, insert, remove, get-entries}
use Rattle.std.specs.FinMap.Entries.{below_all, find, is_sorted}
use Rattle.std.specs.List.{AllByRecursion, filter}
use Rattle.std.specs.Option.{IsSome}
use Rattle.std.specs.Ordering.{nat_cmp, is_eq, is_lt, eq_by_cmp}
use Rattle.std.specs.declared.cmp.Ordering.{Ordering}
use Rattle.std.specs.declared.cmp.Ordering.TheVariants.{Less, Equal, Greater}
use Rattle.std.proofs.lemmas.Bool.{cases_eq, cases_lt, eqb-true}
use Rattle.std.proofs.lemmas.Map.Lookups.{exact_unsigned}
use Rattle.hc_update.specs.declared.stored.Stored.{Stored}
use Rattle.hc_transcript.specs.declared.record.Record.{Record}
use Rattle.hc_transcript.specs.Limits.{greatest_number}
use Rattle.hc_service.specs.declared.event.Event.{Event}
use Rattle.hc_service.specs.declared.event.Happening.{Happening}
use Rattle.hc_service.specs.declared.event.Happening.TheVariants.{ClientOpened, ClientBytes, ClientEnd, OriginBytes, OriginEnd, OriginFailed, Stopping as ToStop}
use Rattle.hc_service.specs.declared.action.Action.{Action}
use Rattle.hc_service.specs.declared.cases.Cause.TheVariants.{UriMiss}
use Rattle.hc_service.specs.declared.fault.StepFault.TheVariants.{Memory, MomentTooLarge, UnknownNumber, TooManyConnections, Failed}
use Rattle.hc_service.specs.declared.numbers.Numbers.{Numbers}
use Rattle.hc_service.specs.declared.open.ForwardKind.TheVariants.{Joinable, Plain}
use Rattle.hc_service.specs.declared.open.OpenExchange.{OpenExchange}
use Rattle.hc_service.specs.declared.open.Purpose.{Purpose}
use Rattle.hc_service.specs.declared.open.Purpose.TheVariants as purpose
use Rattle.hc_service.specs.declared.settings.CoreSettings.{CoreSettings}
use Rattle.hc_service.specs.declared.settings.CoreOptions.{CoreOptions}
use Rattle.hc_service.specs.Numbers.{after_opening, asked, noted, one_more, sent, stopping}
use Rattle.hc_service.specs.State.{State, Table, Awaited, exchange_for, new_state_with, open_now}
use Rattle.hc_service.specs.Joining.{AllHaveForwards, HasForward, HasOwnForward, LeavesNobody, WaitsUntilEnd, shared, waiting_for, waits_for}
use Rattle.hc_service.specs.Reactions.{Reaction, forward_alone, forward_anew}
use Rattle.hc_service.specs.Reactions.Reaction.{Replies as RepliesAtOnce, Sends, Waits}
use Rattle.hc_service.specs.Agreement.{Agrees, History}
use Rattle.hc_service.specs.Runs.{EachLeads, Runs, StepResult, nothing_yet}
use Rattle.hc_service.specs.Answers.{Outcome}
use Rattle.hc_service.specs.Answers.Outcome.{Replies, GoesAnew}
use Rattle.hc_service.specs.Turns.{Answers, Asker, Asks, Breaks, DoesOutcome, DoesReaction, DoesRelease, Ended, EndsBehind, EndsByFailure, EndsByResponse, Failure, OriginSends, Releases, after_origin_octets, answered_now, arrived_on, asker_now, failed_now, opened, released, sent_forward, whole_request}
use Rattle.hc_service.specs.Turns.Failure.{IsBroken, IsCutOff, IsLost}
use Rattle.hc_service.specs.Serves.{Turn, Takes, Run, Reads, ReadsOnAll, OwesAnswer, OwesEnd, OwesReply, Owes, Serves, clients_of, passed_to}
use Rattle.hc_service.specs.Serves.Turn.{Opening, ClientSending, Asking, Refusal, Dropping, Leaving, Closing, OriginSending, Answering, Failing, Releasing, Stopping}
use Rattle.hc_service.proofs.LinkLemmas.{none_some, one_of}
use Rattle.hc_service.proofs.QuietLemmas.{IsAmong, one_among, run_split}
use Rattle.hc_service.proofs.LeftLemmas.{joins_it, passed_owes, waits_among}
use Rattle.hc_service.proofs.RunLemmas.{runs_agree}
use Rattle.hc_service.proofs.StepLemmas.{run_rises, turn_rises}
use Rattle.hc_service.proofs.TableLemmas.{equal_of, get_gone, get_left, get_none, get_other, get_same, was_put}

-- ---- tables

at_same : {X : Type 0} (t u : Table X) (n : ℕ) → u ≡ t → get u n ≡ get t n
at_same {X = X} t u n same = ap (λ (t : Table X). get t n) same

there_is : {X : Type 0} (o : Option X) → IsSome o → (x : X) × (o ≡ Some x)
there_is None is = absurd (no is)
  where
    no : false ≡ true → ⊥
    no e = cc
there_is (Some x) is = (x, refl)

-- what is there has a number that was given
given_number : {X : Type 0} (t : Table X) (last n : ℕ) (x : X) → ((m : ℕ) → last < m → get t m ≡ None) → get t n ≡ Some x → n ≤ last
given_number t last n x none is =
    ⊎_elim (λ (further : last < n). absurd (none_some (get t n) x (none n further) is)) (λ (le : n ≤ last). le) (cases_lt last n)

-- ---- who waits for a forward does so

less_of : (o : Ordering) → is_lt o ≡ true → o ≡ Less
less_of Less t = refl
less_of Equal t = absurd (cc)
less_of Greater t = absurd (cc)

is_true : (b : Bool) → T b → b ≡ true
is_true true t = refl
is_true false t = absurd t

both_parts : (a b : Bool) → (a && b) ≡ true → (a ≡ true) × (b ≡ true)
both_parts true b t = (refl, t)
both_parts false b t = absurd (cc)

true_false : true ≡ false → ⊥
true_false e = cc

module _ {X : Type 0} where
  -- nothing stands at a number below all
  none_below : (n : ℕ) (es : List (ℕ × X)) → below_all nat_cmp n es ≡ true → find nat_cmp n es ≡ None
  none_below n [] below = refl
  none_below n (e ∷ es) below =
      let parts = both_parts (is_lt (nat_cmp n e.0)) (below_all nat_cmp n es) below in
      ap (λ (b : Bool). cond b (Some e.1) (find nat_cmp n es)) (ap is_eq (less_of (nat_cmp n e.0) parts.0)) ∙ none_below n es parts.1

  module _ (pass : X → Bool) where
    -- something is there, and passes
    abbrev Passing : Option X → Type 0
    Passing o = (x : X) × (o ≡ Some x) × (pass x ≡ true)

    -- so it is at each number of those that pass
    passes_there : (n : ℕ) (es : List (ℕ × X)) → is_sorted nat_cmp es ≡ true → IsAmong n (map (λ e. e.0) (filter (λ e. pass e.1) es)) → Passing (find nat_cmp n es)
    passes_there n [] sorted is = absurd is
    passes_there n (e ∷ es) sorted is =
        let parts = both_parts (below_all nat_cmp e.0 es) (is_sorted nat_cmp es) sorted in
        by (eq_by_cmp nat_cmp n e.0) (pass e.1) refl refl is (λ there. passes_there n es parts.1 there)
        (λ tied. ap (λ (m : ℕ). find nat_cmp m es) (exact_unsigned n e.0 (equal_of (nat_cmp n e.0) tied)) ∙ none_below e.0 es parts.0)
      where
        by : (b c : Bool) → eq_by_cmp nat_cmp n e.0 ≡ b → pass e.1 ≡ c
            → IsAmong n (map (λ e. e.0) (cond c (e ∷ filter (λ e. pass e.1) es) (filter (λ e. pass e.1) es)))
            → (IsAmong n (map (λ e. e.0) (filter (λ e. pass e.1) es)) → Passing (find nat_cmp n es))
            → (eq_by_cmp nat_cmp n e.0 ≡ true → find nat_cmp n es ≡ None)
            → Passing (cond b (Some e.1) (find nat_cmp n es))
        by true true tied passes is rest none = (e.1, refl, passes)
        by true false tied fails is rest none = let there = rest is in absurd (none_some (find nat_cmp n es) there.0 (none tied) there.1)
        by false true apart passes (inl same) rest none =
            absurd (true_false (sym ((eq_by_cmp_equiv nat_cmp_total).refl n) ∙ ap (eq_by_cmp nat_cmp n) (sym same) ∙ apart))
        by false true apart passes (inr is) rest none = rest is
        by false false apart fails is rest none = rest is

-- each of those that wait for a forward is open, and waits for it
waiters_wait : (f e : ℕ) (x : OpenExchange) (t : Table OpenExchange) → IsAmong e (waiting_for f t) → get t e ≡ Some x → x.waits_for ≡ Some f
waiters_wait f e x t among is =
    let there = passes_there (λ (x : OpenExchange). waits_for f x.waits_for) e (entries t) (is_true _ (entries_sorted t)) among in
    by x.waits_for (ap (λ (x : OpenExchange). waits_for f x.waits_for) (one_of (get t e) x there.0 is (get-entries t e ∙ there.1)) ∙ there.2)
  where
    by : (o : Option ℕ) → waits_for f o ≡ true → o ≡ Some f
    by None is = absurd (cc)
    by (Some g) is = ap Some (eqb-true g f is)

-- ---- numbers that are given

-- each exchange and each forward has its record, and these can be numbered
record InOrder (n : Numbers) : Type 0 where
  exchanges : n.exchange ≤ n.records
  forwards : n.forward ≤ n.records
  few : n.records ≤ greatest_number

-- so many more were given
record Given (exchanges forwards : ℕ) (n m : Numbers) : Type 0 where
  exchange : m.exchange ≡ n.exchange + exchanges
  forward : m.forward ≡ n.forward + forwards
  order : InOrder m

given_at : (exchanges forwards : ℕ) (n m k : Numbers) → m ≡ k → (k.records ≤ greatest_number → Given exchanges forwards n k) → m.records ≤ greatest_number → Given exchanges forwards n m
given_at exchanges forwards n m k same gives le =
    subst (Given exchanges forwards n) (sym same) (gives (subst (λ (k : Numbers). k.records ≤ greatest_number) same le))

module _ (n : Numbers) (o : InOrder n) where
  in_order : (m : Numbers) → m.exchange ≤ m.records → m.forward ≤ m.records → m.records ≤ greatest_number → InOrder m
  in_order m exchanges forwards few = record { exchanges = exchanges; forwards = forwards; few = few }

  given_none : n.records ≤ greatest_number → Given 0 0 n n
  given_none le = record { exchange = omega arith; forward = omega arith; order = o }

  given_opened : (c : ℕ) → n.records ≤ greatest_number → Given 0 0 n (after_opening c n)
  given_opened c le = record { exchange = omega arith; forward = omega arith; order = record { exchanges = o.exchanges; forwards = o.forwards; few = o.few } }

  given_stopping : n.records ≤ greatest_number → Given 0 0 n (stopping n)
  given_stopping le = record { exchange = omega arith; forward = omega arith; order = record { exchanges = o.exchanges; forwards = o.forwards; few = o.few } }

  given_asked : one_more n.records ≤ greatest_number → Given 1 0 n (asked n)
  given_asked le = record { exchange = omega arith; forward = omega arith; order = record { exchanges = omega arith; forwards = omega arith; few = le } }

  given_asked_noted : one_more (one_more n.records) ≤ greatest_number → Given 1 0 n (noted (asked n))
  given_asked_noted le = record { exchange = omega arith; forward = omega arith; order = record { exchanges = omega arith; forwards = omega arith; few = le } }

  given_asked_sent : one_more (one_more n.records) ≤ greatest_number → Given 1 1 n (sent (asked n))
  given_asked_sent le = record { exchange = omega arith; forward = omega arith; order = record { exchanges = omega arith; forwards = omega arith; few = le } }

  given_asked_noted_sent : one_more (one_more (one_more n.records)) ≤ greatest_number → Given 1 1 n (sent (noted (asked n)))
  given_asked_noted_sent le = record { exchange = omega arith; forward = omega arith; order = record { exchanges = omega arith; forwards = omega arith; few = le } }

  given_noted : one_more n.records ≤ greatest_number → Given 0 0 n (noted n)
  given_noted le = record { exchange = omega arith; forward = omega arith; order = record { exchanges = omega arith; forwards = omega arith; few = le } }

  given_noted_noted : one_more (one_more n.records) ≤ greatest_number → Given 0 0 n (noted (noted n))
  given_noted_noted le = record { exchange = omega arith; forward = omega arith; order = record { exchanges = omega arith; forwards = omega arith; few = le } }

  given_sent : one_more n.records ≤ greatest_number → Given 0 1 n (sent n)
  given_sent le = record { exchange = omega arith; forward = omega arith; order = record { exchanges = omega arith; forwards = omega arith; few = le } }

  given_noted_sent : one_more (one_more n.records) ≤ greatest_number → Given 0 1 n (sent (noted n))
  given_noted_sent le = record { exchange = omega arith; forward = omega arith; order = record { exchanges = omega arith; forwards = omega arith; few = le } }

-- no forward has a number that wasn't given yet
record IsNumbered (s : State) : Type 0 where
  order : InOrder s.numbers
  no_forward : (f : ℕ) → s.numbers.forward < f → get s.forwards f ≡ None

-- ---- turns that end no forward

-- a forward of that number is open, for that purpose
abbrev IsOpenFor : Table Awaited → ℕ → Purpose → Type 0
IsOpenFor forwards f p = (a : Awaited) × (get forwards f ≡ Some a) × (a.forward.purpose ≡ p)

-- each forward stays open, for whom it was, and none that has ended is open again
record Onward (s s' : State) : Type 0 where
  numbered : IsNumbered s'
  exchange : s.numbers.exchange ≤ s'.numbers.exchange
  forward : s.numbers.forward ≤ s'.numbers.forward
  kept : (f : ℕ) (a : Awaited) → get s.forwards f ≡ Some a → IsOpenFor s'.forwards f a.forward.purpose
  gone : (f : ℕ) → f ≤ s.numbers.forward → get s.forwards f ≡ None → get s'.forwards f ≡ None

onward_then : (s mid s' : State) → Onward s mid → Onward mid s' → Onward s s'
onward_then s mid s' one more = record {
  numbered = more.numbered;
  exchange = omega (arith, one.exchange, more.exchange);
  forward = omega (arith, one.forward, more.forward);
  kept = λ f a is. let was = one.kept f a is in let now = more.kept f was.0 was.1 in (now.0, now.1, now.2 ∙ was.2);
  gone = λ f le none. more.gone f (omega (arith, one.forward, le)) (one.gone f le none);
}

onward_none : (s : State) → IsNumbered s → Onward s s
onward_none s numbered = record { numbered = numbered; exchange = omega arith; forward = omega arith; kept = λ f a is. (a, is, refl); gone = λ f le none. none }

module _ (s s' : State) (numbered : IsNumbered s) where
  onward_same : (k : ℕ) → Given k 0 s.numbers s'.numbers → s'.forwards ≡ s.forwards → Onward s s'
  onward_same k g same = record {
    numbered = record {
      order = g.order;
      no_forward = λ f later. at_same s.forwards s'.forwards f same ∙ numbered.no_forward f (omega (arith, g.forward, later));
    };
    exchange = omega (arith, g.exchange);
    forward = omega (arith, g.forward);
    kept = λ f a is. (a, at_same s.forwards s'.forwards f same ∙ is, refl);
    gone = λ f le none. at_same s.forwards s'.forwards f same ∙ none;
  }

  new_number : one_more s.numbers.forward ≡ s.numbers.forward + 1
  new_number = omega (arith, numbered.order.forwards, numbered.order.few)

  -- none is there yet
  new_forward : get s.forwards (one_more s.numbers.forward) ≡ None
  new_forward = numbered.no_forward (one_more s.numbers.forward) (omega (arith, new_number))

  onward_sent : (k : ℕ) (b : Awaited) → Given k 1 s.numbers s'.numbers → s'.forwards ≡ insert s.forwards (one_more s.numbers.forward) b → Onward s s'
  onward_sent k b g same = record {
    numbered = record {
      order = g.order;
      no_forward = λ f later.
          at_same (insert s.forwards (one_more s.numbers.forward) b) s'.forwards f same
          ∙ get_other s.forwards (one_more s.numbers.forward) b f (λ e. absurd (omega (arith, g.forward, later, new_number, e)))
          ∙ numbered.no_forward f (omega (arith, g.forward, later));
    };
    exchange = omega (arith, g.exchange);
    forward = omega (arith, g.forward);
    kept = λ f a is. (
      a,
      at_same (insert s.forwards (one_more s.numbers.forward) b) s'.forwards f same
          ∙ get_other s.forwards (one_more s.numbers.forward) b f (λ e. none_some (get s.forwards f) a (ap (get s.forwards) (sym e) ∙ new_forward) is)
          ∙ is,
      refl,
    );
    gone = λ f le none.
        at_same (insert s.forwards (one_more s.numbers.forward) b) s'.forwards f same
        ∙ get_other s.forwards (one_more s.numbers.forward) b f (λ e. absurd (omega (arith, le, new_number, e)))
        ∙ none;
  }

  -- octets come on a forward
  onward_heard : (f : ℕ) (octets : List ℕ) (a : Awaited) → Given 0 0 s.numbers s'.numbers → get s.forwards f ≡ Some a
      → s'.forwards ≡ insert s.forwards f (after_origin_octets octets a) → Onward s s'
  onward_heard f octets a g there same = record {
    numbered = record {
      order = g.order;
      no_forward = λ h later. let none = numbered.no_forward h (omega (arith, g.forward, later)) in absent h none ∙ none;
    };
    exchange = omega (arith, g.exchange);
    forward = omega (arith, g.forward);
    kept = λ h b is.
        ⊎_elim
        (λ (e : f ≡ h). (
          after_origin_octets octets a,
          at_same (insert s.forwards f (after_origin_octets octets a)) s'.forwards h same
              ∙ ap (get (insert s.forwards f (after_origin_octets octets a))) (sym e) ∙ get_same s.forwards f (after_origin_octets octets a),
          ap (λ (z : Awaited). z.forward.purpose) (one_of (get s.forwards h) a b (ap (get s.forwards) (sym e) ∙ there) is),
        ))
        (λ (other : f ≡ h → ⊥). (b, apart h other ∙ is, refl))
        (cases_eq f h);
    gone = λ h le none. absent h none ∙ none;
  }
    where
      apart : (h : ℕ) → (f ≡ h → ⊥) → get s'.forwards h ≡ get s.forwards h
      apart h other = at_same (insert s.forwards f (after_origin_octets octets a)) s'.forwards h same ∙ get_other s.forwards f (after_origin_octets octets a) h other

      absent : (h : ℕ) → get s.forwards h ≡ None → get s'.forwards h ≡ get s.forwards h
      absent h none = apart h (λ e. none_some (get s.forwards h) a none (ap (get s.forwards) (sym e) ∙ there))

-- who has a forward has it still
module _ (s s' : State) (on : Onward s s') where
  own_on : (e : ℕ) → HasOwnForward s.forwards e → HasOwnForward s'.forwards e
  own_on e own =
      let now = on.kept own.number own.awaited own.is_open in
      record { number = own.number; awaited = now.0; is_open = now.1; is_for = ap exchange_for now.2 ∙ own.is_for }

  have_on : (e : ℕ) (o : Option ℕ) → HasForward s.forwards e o → HasForward s'.forwards e o
  have_on e None own = own_on e own
  have_on e (Some f) is =
      let was = there_is (get s.forwards f) is in
      let now = on.kept f was.0 was.1 in
      subst IsSome (sym now.1) refl

-- ---- turns that answer nobody who is there already

-- who is there then has a forward, or was there before; and each who was there stays as it is
record Passes (s s' : State) : Type 0 where
  onward : Onward s s'
  on : (e : ℕ) (x : OpenExchange) → get s'.exchanges e ≡ Some x → HasForward s'.forwards e x.waits_for ⊎ (get s.exchanges e ≡ Some x)
  old : (e : ℕ) → e ≤ s.numbers.exchange → get s'.exchanges e ≡ get s.exchanges e

passes_then : (s mid s' : State) → Passes s mid → Passes mid s' → Passes s s'
passes_then s mid s' one more = record {
  onward = onward_then s mid s' one.onward more.onward;
  on = λ e x is.
      ⊎_elim
      (λ (has : HasForward s'.forwards e x.waits_for). inl has)
      (λ (before : get mid.exchanges e ≡ Some x).
      ⊎_elim
      (λ (has : HasForward mid.forwards e x.waits_for). inl (have_on mid s' more.onward e x.waits_for has))
      (λ (was : get s.exchanges e ≡ Some x). inr was)
      (one.on e x before))
      (more.on e x is);
  old = λ e le. more.old e (omega (arith, one.onward.exchange, le)) ∙ one.old e le;
}

passes_same : (s s' : State) → s'.exchanges ≡ s.exchanges → Onward s s' → Passes s s'
passes_same s s' same onward = record {
  onward = onward;
  on = λ e x is. inr (sym (at_same s.exchanges s'.exchanges e same) ∙ is);
  old = λ e le. at_same s.exchanges s'.exchanges e same;
}

-- one opens, which has a forward
passes_opened : (s s' : State) (y : OpenExchange) → InOrder s.numbers → s'.exchanges ≡ insert s.exchanges (one_more s.numbers.exchange) y
    → HasForward s'.forwards (one_more s.numbers.exchange) y.waits_for → Onward s s' → Passes s s'
passes_opened s s' y order same has onward = record {
  onward = onward;
  on = λ e x is.
      ⊎_elim
      (λ (p : (one_more s.numbers.exchange ≡ e) × (y ≡ x)).
      inl (subst (λ (n : ℕ). HasForward s'.forwards n x.waits_for) p.0 (subst (λ (z : OpenExchange). HasForward s'.forwards (one_more s.numbers.exchange) z.waits_for) p.1 has)))
      (λ (p : (one_more s.numbers.exchange ≡ e → ⊥) × (get s.exchanges e ≡ Some x)). inr p.1)
      (was_put s.exchanges (one_more s.numbers.exchange) y e x (sym (at_same (insert s.exchanges (one_more s.numbers.exchange) y) s'.exchanges e same) ∙ is));
  old = λ e le.
      at_same (insert s.exchanges (one_more s.numbers.exchange) y) s'.exchanges e same
      ∙ get_other s.exchanges (one_more s.numbers.exchange) y e (λ here. absurd (omega (arith, order.exchanges, order.few, le, here)));
}

asking_passes : (settings : CoreSettings) (c : ℕ) (s : State) (actions : List Action) (s' : State) → IsNumbered s → s'.numbers.records ≤ greatest_number → Asks settings c s actions s' → Passes s s'
asking_passes settings c s actions s' numbered le t = by_reaction t.reaction refl t.does
  where
    by_reaction : (r : Reaction) → t.reaction ≡ r → DoesReaction r (arrived_on c t.connection t.size (whole_request settings s t.request t.target t.connection)) s actions s' → Passes s s'
    by_reaction (RepliesAtOnce reply None) is d =
        passes_same s s' d.keeps.exchanges
        (onward_same s s' numbered 1
        (given_at 1 0 s.numbers s'.numbers (noted (asked s.numbers)) d.numbers (given_asked_noted s.numbers numbered.order) le) d.keeps.forwards)
    by_reaction (RepliesAtOnce reply (Some validation)) is d =
        passes_same s s' d.exchanges
        (onward_sent s s' numbered 1 (sent_forward validation.head t.target s.numbers.moment purpose.Background)
        (given_at 1 1 s.numbers s'.numbers (sent (noted (asked s.numbers))) d.numbers (given_asked_noted_sent s.numbers numbered.order) le) d.forwards)
    by_reaction (Sends forward why kind) is d =
        let e = one_more s.numbers.exchange in
        let b = sent_forward forward.head t.target s.numbers.moment (purpose.Reply e why kind) in
        passes_opened s s' (opened (arrived_on c t.connection t.size (whole_request settings s t.request t.target t.connection)) None) numbered.order d.exchanges
        (record {
          number = one_more s.numbers.forward;
          awaited = b;
          is_open = at_same (insert s.forwards (one_more s.numbers.forward) b) s'.forwards (one_more s.numbers.forward) d.forwards
              ∙ get_same s.forwards (one_more s.numbers.forward) b;
          is_for = refl;
        })
        (onward_sent s s' numbered 1 b (given_at 1 1 s.numbers s'.numbers (sent (asked s.numbers)) d.numbers (given_asked_sent s.numbers numbered.order) le) d.forwards)
    by_reaction (Waits f) is d =
        let may = joins_it (whole_request settings s t.request t.target t.connection) (open_now s) s.store s'.store t.reaction f t.reacts is in
        passes_opened s s' (opened (arrived_on c t.connection t.size (whole_request settings s t.request t.target t.connection)) (Some f)) numbered.order d.exchanges
        (subst IsSome (sym (at_same s.forwards s'.forwards f d.forwards ∙ may.is_open)) refl)
        (onward_same s s' numbered 1 (given_at 1 0 s.numbers s'.numbers (asked s.numbers) d.numbers (given_asked s.numbers numbered.order) le) d.forwards)

-- a turn that changes connections alone
idle_passes : (s s' : State) → IsNumbered s → s'.numbers ≡ s.numbers → s'.exchanges ≡ s.exchanges → s'.forwards ≡ s.forwards → s'.numbers.records ≤ greatest_number → Passes s s'
idle_passes s s' numbered numbers exchanges forwards le =
    passes_same s s' exchanges (onward_same s s' numbered 0 (given_at 0 0 s.numbers s'.numbers s.numbers numbers (given_none s.numbers numbered.order) le) forwards)

reading_passes : (settings : CoreSettings) (c : ℕ) (turn : Turn) (s : State) (actions : List Action) (s' : State) → IsNumbered s → s'.numbers.records ≤ greatest_number → Reads c turn
    → Takes settings turn s actions s' → Passes s s'
reading_passes settings c (Asking d) s actions s' numbered le is t = asking_passes settings d s actions s' numbered le t
reading_passes settings c (Refusal d status) s actions s' numbered le is t = idle_passes s s' numbered t.keeps.numbers t.keeps.exchanges t.keeps.forwards le
reading_passes settings c (Dropping d) s actions s' numbered le is t = idle_passes s s' numbered t.keeps.numbers t.keeps.exchanges t.keeps.forwards le
reading_passes settings c (Opening d) s actions s' numbered le is t = absurd is
reading_passes settings c (ClientSending d octets) s actions s' numbered le is t = absurd is
reading_passes settings c (Leaving d) s actions s' numbered le is t = absurd is
reading_passes settings c (Closing d) s actions s' numbered le is t = absurd is
reading_passes settings c (OriginSending f octets) s actions s' numbered le is t = absurd is
reading_passes settings c (Answering f ended) s actions s' numbered le is t = absurd is
reading_passes settings c (Failing f how) s actions s' numbered le is t = absurd is
reading_passes settings c (Releasing e) s actions s' numbered le is t = absurd is
reading_passes settings c Stopping s actions s' numbered le is t = absurd is

-- ---- turns, one after another: the count of records at the end bounds those before

run_few : (settings : CoreSettings) (turns : List Turn) (s : State) (actions : List Action) (s' : State) → s.numbers.records ≤ 18446744073709551615 → Run settings turns s actions s'
    → s'.numbers.records ≤ greatest_number → s.numbers.records ≤ greatest_number
run_few settings turns s actions s' fits run le = let rises = run_rises settings turns s actions s' fits run in omega (arith, rises.0, le)

turn_fits : (settings : CoreSettings) (turn : Turn) (s : State) (actions : List Action) (s' : State) → InOrder s.numbers → Takes settings turn s actions s' → s'.numbers.records ≤ 18446744073709551615
turn_fits settings turn s actions s' order t = (turn_rises settings turn s actions s' (omega (arith, order.few)) t).1

-- behind the first turn
first_few : (settings : CoreSettings) (turn : Turn) (turns : List Turn) (s : State) (actions : List Action) (s' : State) → InOrder s.numbers → (r : Run settings (turn ∷ turns) s actions s')
    → s'.numbers.records ≤ greatest_number → r.0.numbers.records ≤ greatest_number
first_few settings turn turns s actions s' order r le = run_few settings turns r.0 r.2 s' (turn_fits settings turn s r.1 r.0 order r.3) r.5 le

readings_pass : (settings : CoreSettings) (c : ℕ) (turns : List Turn) (s : State) (actions : List Action) (s' : State) → IsNumbered s → s'.numbers.records ≤ greatest_number
    → AllByRecursion (Reads c) turns → Run settings turns s actions s' → Passes s s'
readings_pass settings c [] s actions s' numbered le reads r = subst (Passes s) (sym r.1) (passes_same s s refl (onward_none s numbered))
readings_pass settings c (turn ∷ turns) s actions s' numbered le reads r =
    let one = reading_passes settings c turn s r.1 r.0 numbered (first_few settings turn turns s actions s' numbered.order r le) reads.0 r.3 in
    passes_then s r.0 s' one (readings_pass settings c turns r.0 r.2 s' one.onward.numbered le reads.1 r.5)

clients_pass : (settings : CoreSettings) (clients : List ℕ) (turns : List Turn) (s : State) (actions : List Action) (s' last : State) → IsNumbered s → s'.numbers.records ≤ greatest_number
    → ReadsOnAll clients turns last → Run settings turns s actions s' → Passes s s'
clients_pass settings [] turns s actions s' last numbered le reads r =
    subst (Passes s) (sym (subst (λ (turns : List Turn). Run settings turns s actions s') reads r).1) (passes_same s s refl (onward_none s numbered))
clients_pass settings (c ∷ clients) turns s actions s' last numbered le reads r =
    let parts = run_split settings reads.0 reads.1 s actions s' (subst (λ (turns : List Turn). Run settings turns s actions s') reads.2 r) in
    let fits = (run_rises settings reads.0 s parts.1 parts.0 (omega (arith, numbered.order.few)) parts.3).1 in
    let one = readings_pass settings c reads.0 s parts.1 parts.0 numbered (run_few settings reads.1 parts.0 parts.2 s' fits parts.4 le) reads.3.0 parts.3 in
    passes_then s parts.0 s' one (clients_pass settings clients reads.1 parts.0 parts.2 s' last one.onward.numbered le reads.4 parts.4)

-- ---- a forward ends

-- it closes, and each other one stays open
record Closes (f : ℕ) (s s' : State) : Type 0 where
  numbered : IsNumbered s'
  exchange : s.numbers.exchange ≤ s'.numbers.exchange
  forward : s.numbers.forward ≤ s'.numbers.forward
  kept : (g : ℕ) (a : Awaited) → (f ≡ g → ⊥) → get s.forwards g ≡ Some a → IsOpenFor s'.forwards g a.forward.purpose
  ended : get s'.forwards f ≡ None
  gone : (g : ℕ) → g ≤ s.numbers.forward → get s.forwards g ≡ None → get s'.forwards g ≡ None

left_none : (t : Table Awaited) (n m : ℕ) → get t m ≡ None → get (remove t n) m ≡ None
left_none t n m none =
    ⊎_elim
    (λ (same : n ≡ m). ap (get (remove t n)) (sym same) ∙ get_gone t n)
    (λ (other : n ≡ m → ⊥). get_left t n m other ∙ none)
    (cases_eq n m)

module _ (f : ℕ) (s s' : State) (numbered : IsNumbered s) where
  closes_left : Given 0 0 s.numbers s'.numbers → s'.forwards ≡ remove s.forwards f → Closes f s s'
  closes_left g same = record {
    numbered = record {
      order = g.order;
      no_forward = λ h later.
          at_same (remove s.forwards f) s'.forwards h same ∙ left_none s.forwards f h (numbered.no_forward h (omega (arith, g.forward, later)));
    };
    exchange = omega (arith, g.exchange);
    forward = omega (arith, g.forward);
    kept = λ h a other is. (a, at_same (remove s.forwards f) s'.forwards h same ∙ get_left s.forwards f h other ∙ is, refl);
    ended = at_same (remove s.forwards f) s'.forwards f same ∙ get_gone s.forwards f;
    gone = λ h le none. at_same (remove s.forwards f) s'.forwards h same ∙ left_none s.forwards f h none;
  }

  -- another one is sent in its place
  closes_sent : (a b : Awaited) → get s.forwards f ≡ Some a → Given 0 1 s.numbers s'.numbers → s'.forwards ≡ insert (remove s.forwards f) (one_more s.numbers.forward) b → Closes f s s'
  closes_sent a b there g same = record {
    numbered = record {
      order = g.order;
      no_forward = λ h later.
          apart h (λ e. absurd (omega (arith, g.forward, later, new_number s s numbered, e)))
          ∙ left_none s.forwards f h (numbered.no_forward h (omega (arith, g.forward, later)));
    };
    exchange = omega (arith, g.exchange);
    forward = omega (arith, g.forward);
    kept = λ h c other is. (
      c,
      apart h (λ e. none_some (get s.forwards h) c (ap (get s.forwards) (sym e) ∙ new_forward s s numbered) is) ∙ get_left s.forwards f h other ∙ is,
      refl,
    );
    ended = apart f (λ e. none_some (get s.forwards f) a (ap (get s.forwards) (sym e) ∙ new_forward s s numbered) there) ∙ get_gone s.forwards f;
    gone = λ h le none. apart h (λ e. absurd (omega (arith, le, new_number s s numbered, e))) ∙ left_none s.forwards f h none;
  }
    where
      apart : (h : ℕ) → (one_more s.numbers.forward ≡ h → ⊥) → get s'.forwards h ≡ get (remove s.forwards f) h
      apart h other =
          at_same (insert (remove s.forwards f) (one_more s.numbers.forward) b) s'.forwards h same ∙ get_other (remove s.forwards f) (one_more s.numbers.forward) b h other

-- the exchange that it was for, if it was for one, is answered or has a forward of its own; every other one stays as it is
record EndsAs (f : ℕ) (o : Option ℕ) (s s' : State) : Type 0 where
  closes : Closes f s s'
  its : (e : ℕ) (x : OpenExchange) → o ≡ Some e → get s'.exchanges e ≡ Some x → (get s.exchanges e ≡ Some x) × HasOwnForward s'.forwards e
  others : (e : ℕ) → (o ≡ Some e → ⊥) → get s'.exchanges e ≡ get s.exchanges e

ends_behind : (f : ℕ) (first : List Action) (s : State) (actions : List Action) (s' : State) → IsNumbered s → s'.numbers.records ≤ greatest_number → EndsBehind f first s actions s' → EndsAs f None s s'
ends_behind f first s actions s' numbered le d = record {
  closes = closes_left f s s' numbered (given_at 0 0 s.numbers s'.numbers (noted s.numbers) d.numbers (given_noted s.numbers numbered.order) le) d.forwards;
  its = λ e x for_it is. absurd (none_some None e refl for_it);
  others = λ e other. at_same s.exchanges s'.exchanges e d.keeps.exchanges;
}

outcome_ends : (ended : Ended) (asker : Asker) (a : Awaited) (o : Outcome) (s : State) (actions : List Action) (s' : State) → IsNumbered s → s'.numbers.records ≤ greatest_number
    → get s.forwards ended.forward ≡ Some a → DoesOutcome o ended asker s actions s' → EndsAs ended.forward (Some ended.exchange) s s'
outcome_ends ended asker a (Replies reply) s actions s' numbered le there d = record {
  closes = closes_left ended.forward s s' numbered
      (given_at 0 0 s.numbers s'.numbers (noted (noted s.numbers)) d.numbers (given_noted_noted s.numbers numbered.order) le) d.forwards;
  its = λ e x for_it is.
      absurd (none_some (get (remove s.exchanges ended.exchange) e) x
      (ap (get (remove s.exchanges ended.exchange)) (sym (one_of (Some ended.exchange) ended.exchange e refl for_it)) ∙ get_gone s.exchanges ended.exchange)
      (sym (at_same (remove s.exchanges ended.exchange) s'.exchanges e d.exchanges) ∙ is));
  others = λ e other. at_same (remove s.exchanges ended.exchange) s'.exchanges e d.exchanges ∙ get_left s.exchanges ended.exchange e (λ same. other (ap Some same));
}
outcome_ends ended asker a GoesAnew s actions s' numbered le there d =
    let f = one_more s.numbers.forward in
    let b = sent_forward (forward_anew asker.wanted.name asker.exchange.target asker.exchange.request).head asker.exchange.target s.numbers.moment (purpose.Reply ended.exchange ended.why Plain) in
    record {
      closes = closes_sent ended.forward s s' numbered a b there (given_at 0 1 s.numbers s'.numbers (sent (noted s.numbers)) d.numbers (given_noted_sent s.numbers numbered.order) le) d.forwards;
      its = λ e x for_it is. (
        sym (at_same s.exchanges s'.exchanges e d.keeps.exchanges) ∙ is,
        record {
          number = f;
          awaited = b;
          is_open = at_same (insert (remove s.forwards ended.forward) f b) s'.forwards f d.forwards ∙ get_same (remove s.forwards ended.forward) f b;
          is_for = for_it;
        },
      );
      others = λ e other. at_same s.exchanges s'.exchanges e d.keeps.exchanges;
    }

answering_ends : (settings : CoreSettings) (f : ℕ) (ended : Bool) (s : State) (actions : List Action) (s' : State) → IsNumbered s → s'.numbers.records ≤ greatest_number
    → (t : Answers settings f ended s actions s') → EndsAs f (exchange_for t.awaited.forward.purpose) s s'
answering_ends settings f ended s actions s' numbered le t = by_purpose t.awaited.forward.purpose t.ends
  where
    by_purpose : (p : Purpose) → EndsByResponse p settings (answered_now f t.awaited.forward t.response t.renewed s) s actions s' → EndsAs f (exchange_for p) s s'
    by_purpose purpose.Background d = ends_behind f (answered_now f t.awaited.forward t.response t.renewed s).first s actions s' numbered le d.1
    by_purpose (purpose.Reply e why kind) d =
        outcome_ends (record { forward = f; exchange = e; why = why; first = (answered_now f t.awaited.forward t.response t.renewed s).first })
        (asker_now settings s d.exchange d.connection) t.awaited d.outcome s actions s' numbered le t.is_open d.does

failing_ends : (settings : CoreSettings) (f : ℕ) (how : Failure) (s : State) (actions : List Action) (s' : State) → IsNumbered s → s'.numbers.records ≤ greatest_number
    → (t : Breaks settings f how s actions s') → EndsAs f (exchange_for t.awaited.forward.purpose) s s'
failing_ends settings f how s actions s' numbered le t = by_purpose t.awaited.forward.purpose t.ends
  where
    by_purpose : (p : Purpose) → EndsByFailure p settings (failed_now f t.awaited.forward.target how s) s actions s' → EndsAs f (exchange_for p) s s'
    by_purpose purpose.Background d = ends_behind f (failed_now f t.awaited.forward.target how s).first s actions s' numbered le d.1
    by_purpose (purpose.Reply e why kind) d =
        outcome_ends (record { forward = f; exchange = e; why = why; first = (failed_now f t.awaited.forward.target how s).first })
        (asker_now settings s d.exchange d.connection) t.awaited d.outcome s actions s' numbered le t.is_open d.does

-- ---- and those that waited for it are released

-- each of these is answered, or waits no more and has a forward of its own; every other one stays as it is
record AreReleased (numbers : List ℕ) (s s' : State) : Type 0 where
  onward : Onward s s'
  its : (e : ℕ) (x : OpenExchange) → IsAmong e numbers → get s'.exchanges e ≡ Some x → (x.waits_for ≡ None) × HasOwnForward s'.forwards e
  others : (e : ℕ) → (IsAmong e numbers → ⊥) → get s'.exchanges e ≡ get s.exchanges e

releasing_is : (settings : CoreSettings) (k : ℕ) (s : State) (actions : List Action) (s' : State) → IsNumbered s → s'.numbers.records ≤ greatest_number → Releases settings k s actions s' → AreReleased (k ∷ []) s s'
releasing_is settings k s actions s' numbered le t = by_choice (shared s.numbers.moment t.chosen) t.does
  where
    it : (e : ℕ) → IsAmong e (k ∷ []) → k ≡ e
    it e among = ⊎_elim (λ (same : k ≡ e). same) (λ (none : ⊥). absurd none) among

    by_choice : (o : Option Stored) → DoesRelease o k (asker_now settings s t.exchange t.connection) s actions s' → AreReleased (k ∷ []) s s'
    by_choice (Some stored) d = record {
      onward = onward_same s s' numbered 0 (given_at 0 0 s.numbers s'.numbers (noted s.numbers) d.numbers (given_noted s.numbers numbered.order) le) d.forwards;
      its = λ e x among is.
          absurd (none_some (get (remove s.exchanges k) e) x (ap (get (remove s.exchanges k)) (sym (it e among)) ∙ get_gone s.exchanges k)
          (sym (at_same (remove s.exchanges k) s'.exchanges e d.exchanges) ∙ is));
      others = λ e other. at_same (remove s.exchanges k) s'.exchanges e d.exchanges ∙ get_left s.exchanges k e (λ same. other (inl same));
    }
    by_choice None d =
        let f = one_more s.numbers.forward in
        let b = sent_forward (forward_alone settings.name t.exchange.target t.exchange.request).head t.exchange.target s.numbers.moment (purpose.Reply k UriMiss Joinable) in
        record {
          onward = onward_sent s s' numbered 0 b (given_at 0 1 s.numbers s'.numbers (sent s.numbers) d.numbers (given_sent s.numbers numbered.order) le) d.forwards;
          its = λ e x among is. (
            sym (ap (λ (z : OpenExchange). z.waits_for)
                (one_of (get s'.exchanges e) (released t.exchange) x
                (at_same (insert s.exchanges k (released t.exchange)) s'.exchanges e d.exchanges
                ∙ ap (get (insert s.exchanges k (released t.exchange))) (sym (it e among)) ∙ get_same s.exchanges k (released t.exchange)) is)),
            record {
              number = f;
              awaited = b;
              is_open = at_same (insert s.forwards f b) s'.forwards f d.forwards ∙ get_same s.forwards f b;
              is_for = ap Some (it e among);
            },
          );
          others = λ e other.
              at_same (insert s.exchanges k (released t.exchange)) s'.exchanges e d.exchanges
              ∙ get_other s.exchanges k (released t.exchange) e (λ same. other (inl same));
        }

released_then : (k : ℕ) (numbers : List ℕ) (s mid s' : State) → AreReleased (k ∷ []) s mid → AreReleased numbers mid s' → AreReleased (k ∷ numbers) s s'
released_then k numbers s mid s' one more = record {
  onward = onward_then s mid s' one.onward more.onward;
  its = λ e x among is.
      ⊎_elim
      (λ (there : IsAmong e numbers). more.its e x there is)
      (λ (none : IsAmong e numbers → ⊥).
      let it : k ≡ e = ⊎_elim (λ (same : k ≡ e). same) (λ (there : IsAmong e numbers). absurd (none there)) among in
      let was = one.its e x (inl it) (sym (more.others e none) ∙ is) in
      (was.0, own_on mid s' more.onward e was.1))
      (one_among e numbers);
  others = λ e other.
      more.others e (λ there. other (inr there))
      ∙ one.others e (λ among. other (⊎_elim (λ (same : k ≡ e). inl same) (λ (none : ⊥). absurd none) among));
}

are_released : (settings : CoreSettings) (numbers : List ℕ) (s : State) (actions : List Action) (s' : State) → IsNumbered s → s'.numbers.records ≤ greatest_number
    → Run settings (map Releasing numbers) s actions s' → AreReleased numbers s s'
are_released settings [] s actions s' numbered le r =
    subst (AreReleased [] s) (sym r.1) (record { onward = onward_none s numbered; its = λ e x among is. absurd among; others = λ e other. refl })
are_released settings (k ∷ numbers) s actions s' numbered le r =
    let one = releasing_is settings k s r.1 r.0 numbered (first_few settings (Releasing k) (map Releasing numbers) s actions s' numbered.order r le) r.3 in
    released_then k numbers s r.0 s' one (are_released settings numbers r.0 r.2 s' one.onward.numbered le r.5)

-- ---- from one state to a later one

-- what is so of a cache that agrees with what has happened, and in which each open exchange has a forward
record Holds (s : State) : Type 0 where
  numbered : IsNumbered s
  no_exchange : (e : ℕ) → s.numbers.exchange < e → get s.exchanges e ≡ None
  own : (e f g : ℕ) (x : OpenExchange) (a : Awaited) → get s.exchanges e ≡ Some x → x.waits_for ≡ Some f → get s.forwards g ≡ Some a → exchange_for a.forward.purpose ≡ Some e → ⊥
  have : AllHaveForwards s

-- no forward that has ended is open again; who waits, waited so before; who waited for what is open is still there; and each has a forward
record Leads (s s' : State) : Type 0 where
  exchange : s.numbers.exchange ≤ s'.numbers.exchange
  forward : s.numbers.forward ≤ s'.numbers.forward
  gone : (f : ℕ) → f ≤ s.numbers.forward → get s.forwards f ≡ None → get s'.forwards f ≡ None
  old : (e f : ℕ) (x : OpenExchange) → e ≤ s.numbers.exchange → get s'.exchanges e ≡ Some x → x.waits_for ≡ Some f → get s.exchanges e ≡ Some x
  stays : (e f : ℕ) (x : OpenExchange) (a : Awaited) → get s.exchanges e ≡ Some x → x.waits_for ≡ Some f → get s'.forwards f ≡ Some a → get s'.exchanges e ≡ Some x
  have : AllHaveForwards s'

-- what a request waits for was open, and has a number that was given
waited_open : (s : State) (e f : ℕ) (x : OpenExchange) → AllHaveForwards s → get s.exchanges e ≡ Some x → x.waits_for ≡ Some f → IsSome (get s.forwards f)
waited_open s e f x have is waits = subst (HasForward s.forwards e) waits (have e x is)

waited_number : (s : State) (e f : ℕ) (x : OpenExchange) → Holds s → get s.exchanges e ≡ Some x → x.waits_for ≡ Some f → f ≤ s.numbers.forward
waited_number s e f x held is waits =
    let there = there_is (get s.forwards f) (waited_open s e f x held.have is waits) in
    given_number s.forwards s.numbers.forward f there.0 held.numbered.no_forward there.1

leads_none : (s : State) → Holds s → Leads s s
leads_none s held = record {
  exchange = omega arith;
  forward = omega arith;
  gone = λ f le none. none;
  old = λ e f x le is waits. is;
  stays = λ e f x a is waits there. is;
  have = held.have;
}

leads_then : (s mid s' : State) → Holds s → Leads s mid → Leads mid s' → Leads s s'
leads_then s mid s' held one more = record {
  exchange = omega (arith, one.exchange, more.exchange);
  forward = omega (arith, one.forward, more.forward);
  gone = λ f le none. more.gone f (omega (arith, one.forward, le)) (one.gone f le none);
  old = λ e f x le is waits. one.old e f x le (more.old e f x (omega (arith, one.exchange, le)) is waits) waits;
  stays = λ e f x a is waits there. still e f x a is waits there (get mid.forwards f) refl;
  have = more.have;
}
  where
    still : (e f : ℕ) (x : OpenExchange) (a : Awaited) → get s.exchanges e ≡ Some x → x.waits_for ≡ Some f → get s'.forwards f ≡ Some a → (o : Option Awaited) → get mid.forwards f ≡ o
        → get s'.exchanges e ≡ Some x
    still e f x a is waits there None none =
        let number = waited_number s e f x held is waits in
        absurd (none_some (get s'.forwards f) a (more.gone f (omega (arith, one.forward, number)) none) there)
    still e f x a is waits there (Some b) between = more.stays e f x a (one.stays e f x b is waits between) waits there

leads_past : (s s' : State) → Holds s → Passes s s' → Leads s s'
leads_past s s' held passes = record {
  exchange = passes.onward.exchange;
  forward = passes.onward.forward;
  gone = passes.onward.gone;
  old = λ e f x le is waits. sym (passes.old e le) ∙ is;
  stays = λ e f x a is waits there. passes.old e (given_number s.exchanges s.numbers.exchange e x held.no_exchange is) ∙ is;
  have = λ e x is.
      ⊎_elim
      (λ (has : HasForward s'.forwards e x.waits_for). has)
      (λ (was : get s.exchanges e ≡ Some x). have_on s s' passes.onward e x.waits_for (held.have e x was))
      (passes.on e x is);
}

it_or_not : (o : Option ℕ) (e : ℕ) → (o ≡ Some e) ⊎ (o ≡ Some e → ⊥)
it_or_not None e = inr (λ same. none_some None e refl same)
it_or_not (Some d) e =
    ⊎_elim (λ (same : d ≡ e). inl (ap Some same)) (λ (other : d ≡ e → ⊥). inr (λ same. other (one_of (Some d) d e refl same))) (cases_eq d e)

-- a forward ends, those that waited for it are released, and clients are read
module _ (f : ℕ) (a : Awaited) (s ended freed s' : State) (held : Holds s) (is_open : get s.forwards f ≡ Some a) (ends : EndsAs f (exchange_for a.forward.purpose) s ended)
    (frees : AreReleased (waiting_for f s.exchanges) ended freed) (passes : Passes freed s') where
  its_number : f ≤ s.numbers.forward
  its_number = given_number s.forwards s.numbers.forward f a held.numbered.no_forward is_open

  -- none that has ended is open again
  gone_behind : (g : ℕ) → g ≤ s.numbers.forward → get ended.forwards g ≡ None → get s'.forwards g ≡ None
  gone_behind g le none =
      passes.onward.gone g (omega (arith, le, ends.closes.forward, frees.onward.forward)) (frees.onward.gone g (omega (arith, le, ends.closes.forward)) none)

  -- who is there behind the end was there before, and has a forward of its own if the one that ended was for it
  was_there : (e : ℕ) (x : OpenExchange) → get ended.exchanges e ≡ Some x
      → (get s.exchanges e ≡ Some x) × (HasOwnForward ended.forwards e ⊎ (exchange_for a.forward.purpose ≡ Some e → ⊥))
  was_there e x is =
      ⊎_elim
      (λ (for_it : exchange_for a.forward.purpose ≡ Some e). let was = ends.its e x for_it is in (was.0, inl was.1))
      (λ (other : exchange_for a.forward.purpose ≡ Some e → ⊥). (sym (ends.others e other) ∙ is, inr other))
      (it_or_not (exchange_for a.forward.purpose) e)

  -- so each that isn't released then has a forward
  have_behind : (e : ℕ) (x : OpenExchange) → get s.exchanges e ≡ Some x → (IsAmong e (waiting_for f s.exchanges) → ⊥)
      → HasOwnForward ended.forwards e ⊎ (exchange_for a.forward.purpose ≡ Some e → ⊥) → (o : Option ℕ) → x.waits_for ≡ o → HasForward ended.forwards e o
  have_behind e x was apart (inl own) None alone = own
  have_behind e x was apart (inr other) None alone =
      let own : HasOwnForward s.forwards e = subst (HasForward s.forwards e) alone (held.have e x was) in
      let now = ends.closes.kept own.number own.awaited
      (λ same. other (ap (λ (z : Awaited). exchange_for z.forward.purpose) (one_of (get s.forwards own.number) a own.awaited (ap (get s.forwards) (sym same) ∙ is_open) own.is_open) ∙ own.is_for))
      own.is_open in
      record { number = own.number; awaited = now.0; is_open = now.1; is_for = ap exchange_for now.2 ∙ own.is_for }
  have_behind e x was apart own (Some g) waits =
      let there = there_is (get s.forwards g) (waited_open s e g x held.have was waits) in
      let now = ends.closes.kept g there.0 (λ same. apart (waits_among f e x s.exchanges was (waits ∙ ap Some (sym same)))) there.1 in
      subst IsSome (sym now.1) refl

  have_freed : AllHaveForwards freed
  have_freed e x is =
      ⊎_elim
      (λ (among : IsAmong e (waiting_for f s.exchanges)). let now = frees.its e x among is in subst (HasForward freed.forwards e) (sym now.0) now.1)
      (λ (apart : IsAmong e (waiting_for f s.exchanges) → ⊥).
      let was = was_there e x (sym (frees.others e apart) ∙ is) in
      have_on ended freed frees.onward e x.waits_for (have_behind e x was.0 apart was.1 x.waits_for refl))
      (one_among e (waiting_for f s.exchanges))

  leads_behind : Leads s s'
  leads_behind = record {
    exchange = omega (arith, ends.closes.exchange, frees.onward.exchange, passes.onward.exchange);
    forward = omega (arith, ends.closes.forward, frees.onward.forward, passes.onward.forward);
    gone = λ g le none. gone_behind g le (ends.closes.gone g le none);
    old = λ e g x le is waits.
        let before = sym (passes.old e (omega (arith, le, ends.closes.exchange, frees.onward.exchange))) ∙ is in
        ⊎_elim
        (λ (among : IsAmong e (waiting_for f s.exchanges)). absurd (none_some x.waits_for g (frees.its e x among before).0 waits))
        (λ (apart : IsAmong e (waiting_for f s.exchanges) → ⊥). (was_there e x (sym (frees.others e apart) ∙ before)).0)
        (one_among e (waiting_for f s.exchanges));
    stays = λ e g x b is waits there.
        let le = given_number s.exchanges s.numbers.exchange e x held.no_exchange is in
        let apart = λ (among : IsAmong e (waiting_for f s.exchanges)).
        none_some (get s'.forwards f) b (gone_behind f its_number ends.closes.ended)
        (ap (get s'.forwards) (one_of x.waits_for f g (waiters_wait f e x s.exchanges among is) waits) ∙ there) in
        passes.old e (omega (arith, le, ends.closes.exchange, frees.onward.exchange)) ∙ frees.others e apart ∙ ends.others e (held.own e g f x a is waits is_open) ∙ is;
    have = λ e x is.
        ⊎_elim
        (λ (has : HasForward s'.forwards e x.waits_for). has)
        (λ (was : get freed.exchanges e ≡ Some x). have_on freed s' passes.onward e x.waits_for (have_freed e x was))
        (passes.on e x is);
  }

-- ---- what that says of those that wait

leads_to : (s s' : State) → Holds s → Leads s s' → LeavesNobody s s'
leads_to s s' held leads = record { have_forwards = leads.have; wait_until_end = λ e f x is waits. until e f x is waits (get s'.forwards f) refl }
  where
    no_more : (e f : ℕ) (x y : OpenExchange) → get s.exchanges e ≡ Some x → x.waits_for ≡ Some f → get s'.forwards f ≡ None → get s'.exchanges e ≡ Some y
        → (o : Option ℕ) → y.waits_for ≡ o → (y.waits_for ≡ None) × HasOwnForward s'.forwards e
    no_more e f x y is waits none now None alone = (alone, subst (HasForward s'.forwards e) alone (leads.have e y now))
    no_more e f x y is waits none now (Some g) still =
        let was = leads.old e g y (given_number s.exchanges s.numbers.exchange e x held.no_exchange is) now still in
        let same = one_of x.waits_for f g waits (ap (λ (z : OpenExchange). z.waits_for) (one_of (get s.exchanges e) x y is was) ∙ still) in
        let there = there_is (get s'.forwards g) (waited_open s' e g y leads.have now still) in
        absurd (none_some (get s'.forwards g) there.0 (ap (get s'.forwards) (sym same) ∙ none) there.1)

    until : (e f : ℕ) (x : OpenExchange) → get s.exchanges e ≡ Some x → x.waits_for ≡ Some f → (o : Option Awaited) → get s'.forwards f ≡ o → WaitsUntilEnd o e x s'
    until e f x is waits (Some a) there = leads.stays e f x a is waits there
    until e f x is waits None none = λ y now. no_more e f x y is waits none now y.waits_for refl

-- ---- events

module _ (settings : CoreSettings) where
  -- a turn ends the forward of that number
  abbrev EndsIt : ℕ → Turn → State → Type 0
  EndsIt f turn s =
      (first : List Action) (mid : State) → mid.numbers.records ≤ greatest_number → Takes settings turn s first mid
      → (a : Awaited) × (get s.forwards f ≡ Some a) × EndsAs f (exchange_for a.forward.purpose) s mid

  answering_it : (f : ℕ) (ended : Bool) (s : State) → IsNumbered s → EndsIt f (Answering f ended) s
  answering_it f ended s numbered first mid le t = (t.awaited, t.is_open, answering_ends settings f ended s first mid numbered le t)

  failing_it : (f : ℕ) (how : Failure) (s : State) → IsNumbered s → EndsIt f (Failing f how) s
  failing_it f how s numbered first mid le t = (t.awaited, t.is_open, failing_ends settings f how s first mid numbered le t)

  -- those that waited for it are released, and clients are read
  ended_leads : (f : ℕ) (turn : Turn) (clients : List ℕ) (turns readings : List Turn) (s : State) (actions : List Action) (s' last : State) → Holds s → s'.numbers.records ≤ greatest_number
      → EndsIt f turn s → turns ≡ turn ∷ (map Releasing (waiting_for f s.exchanges) ++ readings) → ReadsOnAll clients readings last → Run settings turns s actions s' → Leads s s'
  ended_leads f turn clients turns readings s actions s' last held le ends is reads run =
      let r = subst (λ (turns : List Turn). Run settings turns s actions s') is run in
      let parts = run_split settings (map Releasing (waiting_for f s.exchanges)) readings r.0 r.2 s' r.5 in
      let fits = turn_fits settings turn s r.1 r.0 held.numbered.order r.3 in
      let one = ends r.1 r.0 (run_few settings (map Releasing (waiting_for f s.exchanges) ++ readings) r.0 r.2 s' fits r.5 le) r.3 in
      let few = run_few settings readings parts.0 parts.2 s' (run_rises settings (map Releasing (waiting_for f s.exchanges)) r.0 parts.1 parts.0 fits parts.3).1 parts.4 le in
      let frees = are_released settings (waiting_for f s.exchanges) r.0 parts.1 parts.0 one.2.closes.numbered few parts.3 in
      leads_behind f one.0 s r.0 parts.0 s' held one.1 one.2 frees (clients_pass settings clients readings parts.0 parts.2 s' last frees.onward.numbered le reads parts.4)

  -- one turn alone
  alone_leads : (turn : Turn) (turns : List Turn) (s : State) (actions : List Action) (s' : State) → Holds s → turns ≡ turn ∷ []
      → ((first : List Action) → Takes settings turn s first s' → Passes s s') → Run settings turns s actions s' → Leads s s'
  alone_leads turn turns s actions s' held is passes run =
      let r = subst (λ (turns : List Turn). Run settings turns s actions s') is run in
      leads_past s s' held (passes r.1 (subst (λ (mid : State). Takes settings turn s r.1 mid) (sym r.5.1) r.3))

  end_leads : (c : ℕ) (leaves : Bool) (exchange : Option ℕ) (turns : List Turn) (s : State) (actions : List Action) (s' : State) → Holds s → s'.numbers.records ≤ greatest_number
      → OwesEnd c leaves exchange turns → Run settings turns s actions s' → Leads s s'
  end_leads c true exchange turns s actions s' held le owes run =
      subst (Leads s) (sym (subst (λ (turns : List Turn). Run settings turns s actions s') owes run).1) (leads_none s held)
  end_leads c false (Some e) turns s actions s' held le owes run =
      alone_leads (Leaving c) turns s actions s' held owes (λ first t. idle_passes s s' held.numbered t.keeps.numbers t.keeps.exchanges t.keeps.forwards le) run
  end_leads c false None turns s actions s' held le (inl owes) run =
      alone_leads (Closing c) turns s actions s' held owes (λ first t. idle_passes s s' held.numbered t.keeps.numbers t.keeps.exchanges t.keeps.forwards le) run
  end_leads c false None turns s actions s' held le (inr owes) run =
      alone_leads (Refusal c owes.0) turns s actions s' held owes.1 (λ first t. idle_passes s s' held.numbered t.keeps.numbers t.keeps.exchanges t.keeps.forwards le) run

  -- octets come from the origin
  module _ (f : ℕ) (octets : List ℕ) (s : State) (given : List Action) (mid : State) (held : Holds s) (few : mid.numbers.records ≤ greatest_number) (t : OriginSends f octets s given mid) where
    heard_passes : Passes s mid
    heard_passes =
        passes_same s mid t.keeps.exchanges
        (onward_heard s mid held.numbered f octets t.awaited (given_at 0 0 s.numbers mid.numbers s.numbers t.keeps.numbers (given_none s.numbers held.numbered.order) few) t.is_open t.forwards)

    heard_holds : Holds mid
    heard_holds = record {
      numbered = heard_passes.onward.numbered;
      no_exchange = λ e later.
          at_same s.exchanges mid.exchanges e t.keeps.exchanges
          ∙ held.no_exchange e (subst (λ (n : Numbers). n.exchange < e) t.keeps.numbers later);
      own = λ e g h x a is waits there for_it.
          ⊎_elim
          (λ (p : (f ≡ h) × (after_origin_octets octets t.awaited ≡ a)).
          held.own e g f x t.awaited (sym (at_same s.exchanges mid.exchanges e t.keeps.exchanges) ∙ is) waits t.is_open
          (ap (λ (z : Awaited). exchange_for z.forward.purpose) p.1 ∙ for_it))
          (λ (p : (f ≡ h → ⊥) × (get s.forwards h ≡ Some a)). held.own e g h x a (sym (at_same s.exchanges mid.exchanges e t.keeps.exchanges) ∙ is) waits p.1 for_it)
          (was_put s.forwards f (after_origin_octets octets t.awaited) h a
          (sym (at_same (insert s.forwards f (after_origin_octets octets t.awaited)) mid.forwards h t.forwards) ∙ there));
      have = (leads_past s mid held heard_passes).have;
    }

    heard_ends : (turn : Turn) (turns : List Turn) (rest : List Action) (s' : State) → s'.numbers.records ≤ greatest_number → EndsIt f turn mid → OwesReply f turn turns s s'
        → Run settings turns mid rest s' → Leads mid s'
    heard_ends turn turns rest s' le ends owes run =
        ended_leads f turn (clients_of f s) turns owes.0 mid rest s' s' heard_holds le ends
        (owes.1 ∙ ap (λ (xs : Table OpenExchange). turn ∷ (map Releasing (waiting_for f xs) ++ owes.0)) (sym t.keeps.exchanges)) owes.2 run

    heard_then : (turns : List Turn) (rest : List Action) (s' : State) → s'.numbers.records ≤ greatest_number → OwesAnswer f turns s s' → Run settings turns mid rest s' → Leads mid s'
    heard_then turns rest s' le (inl none) run =
        subst (Leads mid) (sym (subst (λ (turns : List Turn). Run settings turns mid rest s') none.0 run).1) (leads_none mid heard_holds)
    heard_then turns rest s' le (inr (inl owes)) run = heard_ends (Answering f false) turns rest s' le (answering_it f false mid heard_holds.numbered) owes run
    heard_then turns rest s' le (inr (inr owes)) run = heard_ends (Failing f IsBroken) turns rest s' le (failing_it f IsBroken mid heard_holds.numbered) owes run

    heard_leads : (turns : List Turn) (rest : List Action) (s' : State) → s'.numbers.records ≤ greatest_number → OwesAnswer f turns s s' → Run settings turns mid rest s' → Leads s s'
    heard_leads turns rest s' le owes run = leads_then s mid s' held (leads_past s mid held heard_passes) (heard_then turns rest s' le owes run)

  owed_leads : (happening : Happening) (turns : List Turn) (s : State) (actions : List Action) (s' : State) → Holds s → s'.numbers.records ≤ greatest_number → Owes happening turns s s'
      → Run settings turns s actions s' → Leads s s'
  owed_leads (ClientOpened c) turns s actions s' held le owes run =
      alone_leads (Opening c) turns s actions s' held owes
      (λ first t.
      passes_same s s' t.keeps.exchanges
      (onward_same s s' held.numbered 0
      (given_at 0 0 s.numbers s'.numbers (after_opening c s.numbers) t.numbers (given_opened s.numbers held.numbered.order c) le) t.keeps.forwards)) run
  owed_leads (ClientBytes c octets) turns s actions s' held le owes run =
      let r = subst (λ (turns : List Turn). Run settings turns s actions s') owes.1 run in
      let few = first_few settings (ClientSending c octets) owes.0 s actions s' held.numbered.order r le in
      let one = idle_passes s r.0 held.numbered r.3.keeps.numbers r.3.keeps.exchanges r.3.keeps.forwards few in
      leads_past s s' held (passes_then s r.0 s' one (readings_pass settings c owes.0 r.0 r.2 s' one.onward.numbered le owes.2.0 r.5))
  owed_leads (ClientEnd c) turns s actions s' held le owes run = end_leads c owes.0.leaves owes.0.exchange turns s actions s' held le owes.2 run
  owed_leads (OriginBytes f octets) turns s actions s' held le owes run =
      let r = subst (λ (turns : List Turn). Run settings turns s actions s') owes.1 run in
      heard_leads f octets s r.1 r.0 held (first_few settings (OriginSending f octets) owes.0 s actions s' held.numbered.order r le) r.3 owes.0 r.2 s' le owes.2 r.5
  owed_leads (OriginEnd f) turns s actions s' held le (inl owes) run =
      ended_leads f (Answering f true) (clients_of f s) turns owes.0 s actions s' s' held le (answering_it f true s held.numbered) owes.1 owes.2 run
  owed_leads (OriginEnd f) turns s actions s' held le (inr owes) run =
      ended_leads f (Failing f IsCutOff) (clients_of f s) turns owes.0 s actions s' s' held le (failing_it f IsCutOff s held.numbered) owes.1 owes.2 run
  owed_leads (OriginFailed f) turns s actions s' held le owes run =
      ended_leads f (Failing f IsLost) (clients_of f s) turns owes.0 s actions s' s' held le (failing_it f IsLost s held.numbered) owes.1 owes.2 run
  owed_leads ToStop turns s actions s' held le owes run =
      alone_leads Stopping turns s actions s' held owes
      (λ first t.
      passes_same s s' t.keeps.exchanges
      (onward_same s s' held.numbered 0 (given_at 0 0 s.numbers s'.numbers (stopping s.numbers) t.numbers (given_stopping s.numbers held.numbered.order) le) t.keeps.forwards)) run

  -- the moment is nothing to it
  passed_holds : (moment : ℕ) (s : State) → Holds s → Holds (passed_to moment s)
  passed_holds moment s held = record {
    numbered = record {
      order = record { exchanges = held.numbered.order.exchanges; forwards = held.numbered.order.forwards; few = held.numbered.order.few };
      no_forward = held.numbered.no_forward;
    };
    no_exchange = held.no_exchange;
    own = held.own;
    have = held.have;
  }

  event_leads : (event : Event) (s : State) (actions : List Action) (s' : State) → Holds s → s'.numbers.records ≤ greatest_number → Serves settings event s actions s' → Leads s s'
  event_leads event s actions s' held le v =
      let leads = owed_leads event.of v.turns (passed_to event.moment s) actions s' (passed_holds event.moment s held) le (passed_owes event.moment event.of v.turns s s' v.owes) v.run in
      record { exchange = leads.exchange; forward = leads.forward; gone = leads.gone; old = leads.old; stays = leads.stays; have = leads.have }

-- ---- where a cache agrees with what has happened

agrees_holds : (s : State) (h : History) → Agrees s h → AllHaveForwards s → Holds s
agrees_holds s h a have =
    let counted = a.consistent.counted in
    let asked = a.consistent.asked in
    record {
      numbered = record {
        order = record { exchanges = counted.exchanges; forwards = counted.forwards; few = counted.in_range };
        no_forward = asked.later_forwards;
      };
      no_exchange = asked.later_exchanges;
      own = a.consistent.waiting.own;
      have = have;
    }

pub event_leaves : (settings : CoreSettings) (event : Event) (s : State) (actions : List Action) (s' : State) (h : History) → Agrees s h → AllHaveForwards s → Serves settings event s actions s'
    → s'.numbers.records ≤ greatest_number → LeavesNobody s s'
event_leaves settings event s actions s' h a have v le = let held = agrees_holds s h a have in leads_to s s' held (event_leads settings event s actions s' held le v)

-- ---- runs

-- one event of a run
served_leads : (settings : CoreSettings) (event : Event) (events : List Event) (results : List StepResult) (s mid : State) (h between : History) (records : List Record) (actions : List Action)
    (end : Option State) → Agrees s h → AllHaveForwards s → Serves settings event s actions mid → Runs settings mid between events results records end → Leads s mid
served_leads settings event events results s mid h between records actions end a have v more =
    let later = runs_agree settings events results mid between records end more in
    event_leads settings event s actions mid (agrees_holds s h a have) later.consistent.counted.in_range v

runs_lead : (settings : CoreSettings) (events : List Event) (results : List StepResult) (s s' : State) (h : History) (records : List Record) → AllHaveForwards s
    → Runs settings s h events results records (Some s') → Leads s s'
runs_lead settings [] [] s s' h records have runs = subst (Leads s) (sym (one_of (Some s') s' s refl runs.2)) (leads_none s (agrees_holds s h runs.0 have))
runs_lead settings [] (result ∷ results) s s' h records have runs = absurd runs
runs_lead settings (event ∷ events) [] s s' h records have runs = absurd runs
runs_lead settings (event ∷ events) (Ok actions ∷ results) s s' h records have runs =
    let one = served_leads settings event events results s runs.1 h runs.2 runs.3 actions.items (Some s') runs.0 have runs.4 runs.7 in
    leads_then s runs.1 s' (agrees_holds s h runs.0 have) one (runs_lead settings events results runs.1 s' runs.2 runs.3 one.have runs.7)
runs_lead settings (event ∷ events) (Err Memory ∷ results) s s' h records have runs = absurd (none_some (Some s') s' runs.4 refl)
runs_lead settings (event ∷ events) (Err MomentTooLarge ∷ results) s s' h records have runs = runs_lead settings events results s s' h records have runs.2
runs_lead settings (event ∷ events) (Err UnknownNumber ∷ results) s s' h records have runs = runs_lead settings events results s s' h records have runs.2
runs_lead settings (event ∷ events) (Err TooManyConnections ∷ results) s s' h records have runs = runs_lead settings events results s s' h records have runs.2
runs_lead settings (event ∷ events) (Err Failed ∷ results) s s' h records have runs = absurd runs

-- a run leaves nobody waiting, from its first state to its last
pub runs_leave : (settings : CoreSettings) (events : List Event) (results : List StepResult) (s s' : State) (h : History) (records : List Record) → AllHaveForwards s
    → Runs settings s h events results records (Some s') → LeavesNobody s s'
runs_leave settings events results s s' h records have runs =
    leads_to s s' (agrees_holds s h (runs_agree settings events results s h records (Some s') runs) have) (runs_lead settings events results s s' h records have runs)

-- nor does any event of it
each_leaves : (settings : CoreSettings) (events : List Event) (results : List StepResult) (s : State) (h : History) (records : List Record) (end : Option State) → AllHaveForwards s
    → (runs : Runs settings s h events results records end) → EachLeads LeavesNobody settings s h events results records end runs
each_leaves settings [] [] s h records end have runs = tt
each_leaves settings [] (result ∷ results) s h records end have runs = tt
each_leaves settings (event ∷ events) [] s h records end have runs = tt
each_leaves settings (event ∷ events) (Ok actions ∷ results) s h records end have runs =
    let one = served_leads settings event events results s runs.1 h runs.2 runs.3 actions.items end runs.0 have runs.4 runs.7 in
    (leads_to s runs.1 (agrees_holds s h runs.0 have) one, each_leaves settings events results runs.1 runs.2 runs.3 end one.have runs.7)
each_leaves settings (event ∷ events) (Err Memory ∷ results) s h records end have runs = tt
each_leaves settings (event ∷ events) (Err MomentTooLarge ∷ results) s h records end have runs = each_leaves settings events results s h records end have runs.2
each_leaves settings (event ∷ events) (Err UnknownNumber ∷ results) s h records end have runs = each_leaves settings events results s h records end have runs.2
each_leaves settings (event ∷ events) (Err TooManyConnections ∷ results) s h records end have runs = each_leaves settings events results s h records end have runs.2
each_leaves settings (event ∷ events) (Err Failed ∷ results) s h records end have runs = tt

-- in a new cache nothing is open
new_have : (settings : CoreSettings) (options : CoreOptions) → AllHaveForwards (new_state_with settings options)
new_have settings options e x is = absurd (none_some (get (new_state_with settings options).exchanges e) x (get_none e) is)

pub new_runs_leave : (settings : CoreSettings) (options : CoreOptions) (events : List Event) (results : List StepResult) (records : List Record) (s : State)
    → Runs settings (new_state_with settings options) nothing_yet events results records (Some s) → AllHaveForwards s
new_runs_leave settings options events results records s runs = (runs_leave settings events results (new_state_with settings options) s nothing_yet records (new_have settings options) runs).have_forwards

pub new_each_leaves : (settings : CoreSettings) (options : CoreOptions) (events : List Event) (results : List StepResult) (records : List Record) (end : Option State)
    → (runs : Runs settings (new_state_with settings options) nothing_yet events results records end)
    → EachLeads LeavesNobody settings (new_state_with settings options) nothing_yet events results records end runs
new_each_leaves settings options events results records end runs = each_leaves settings events results (new_state_with settings options) nothing_yet records end (new_have settings options) runs
