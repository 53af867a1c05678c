-- Few wait for each forward.
use Rattle.std.proofs.Common.{◌≡◌, ℕ, ◌+◌, ◌≤◌, ◌<◌, Bool, true, false, cond, List, [], ◌∷◌, map, length, Option, Some, None, refl, sym, ap, ◌∙◌, subst, arith, nat_eq, ⊎_elim}
use Rattle.std.specs.Cmp.{nat_cmp_total}
use Rattle.std.specs.FinMap.{empty, entries, get, insert, remove, get-entries, entries-insert, len-entries, len-empty, same_map}
use Rattle.std.specs.FinMap.Entries.{by_order, find, put}
use Rattle.std.specs.List.{filter}
use Rattle.std.specs.Ordering.{nat_cmp, is_eq}
use Rattle.std.specs.declared.cmp.Ordering.{Ordering}
use Rattle.std.specs.declared.cmp.Ordering.TheVariants.{Less, Equal, Greater}
use Rattle.std.proofs.lemmas.Bool.{cases_eq, ne_eqb}
use Rattle.std.proofs.lemmas.Map.Lookups.{exact_unsigned}
use Rattle.hc_update.specs.declared.stored.Stored.{Stored}
use Rattle.hc_transcript.specs.declared.record.Record.{Record}
use Rattle.hc_service.specs.declared.event.Event.{Event}
use Rattle.hc_service.specs.declared.action.Action.{Action}
use Rattle.hc_service.specs.declared.open.OpenExchange.{OpenExchange}
use Rattle.hc_service.specs.declared.open.Purpose.{Purpose}
use Rattle.hc_service.specs.declared.open.Purpose.TheVariants as purpose
use Rattle.hc_service.specs.declared.settings.CoreSettings.{CoreSettings}
use Rattle.hc_service.specs.declared.settings.CoreOptions.{CoreOptions}
use Rattle.hc_service.specs.Numbers.{one_more}
use Rattle.hc_service.specs.State.{State, Table, new_state_with, open_now}
use Rattle.hc_service.specs.Joining.{FewWait, most_waiting, shared, waiting_for, waits_for}
use Rattle.hc_service.specs.Reactions.{Reaction}
use Rattle.hc_service.specs.Reactions.Reaction.{Replies as RepliesAtOnce, Sends, Waits}
use Rattle.hc_service.specs.Runs.{Runs, StepResult, Steps, nothing_yet}
use Rattle.hc_service.specs.Answers.{Outcome}
use Rattle.hc_service.specs.Answers.Outcome.{Replies, GoesAnew}
use Rattle.hc_service.specs.Turns.{Asker, Asks, DoesOutcome, DoesReaction, DoesRelease, Ended, EndsByFailure, EndsByResponse, answered_now, arrived_on, asker_now, failed_now, opened, released, whole_request}
use Rattle.hc_service.specs.Serves.{Turn, Takes, Run, Serves, passed_to}
use Rattle.hc_service.specs.Serves.Turn.{Opening, ClientSending, Asking, Refusal, Dropping, Leaving, Closing, OriginSending, Answering, Failing, Releasing, Stopping}
use Rattle.hc_service.proofs.LeftLemmas.{joins_it, steps_keep}
use Rattle.hc_service.proofs.RunLemmas.{runs_steps}
use Rattle.hc_service.proofs.TableLemmas.{get_gone, get_out, get_put}

-- ---- how many of a table pass

-- to put in place of what was there is to put where it was taken out
put_back : {X : Type 0} (t : Table X) (k : ℕ) (x : X) → insert (remove t k) k x ≡ insert t k x
put_back {X = X} t k x = same_map nat_cmp_total exact_unsigned _ _ (λ q.
    get_put (remove t k) k x q ∙ ap (cond (nat_eq k q) (Some x)) (get_out t k q) ∙ twice (nat_eq k q) (get t q) ∙ sym (get_put t k x q))
  where
    twice : (b : Bool) (kept : Option X) → cond b (Some x) (cond b None kept) ≡ cond b (Some x) kept
    twice true kept = refl
    twice false kept = refl

module _ {X : Type 0} (pass : X → Bool) where
  abbrev many : List (ℕ × X) → ℕ
  many es = length (map (λ e. e.0) (filter (λ e. pass e.1) es))

  many_cons : (e : ℕ × X) (es : List (ℕ × X)) → many (e ∷ es) ≡ cond (pass e.1) 1 0 + many es
  many_cons e es = by (pass e.1)
    where
      by : (b : Bool) → length (map (λ e. e.0) (cond b (e ∷ filter (λ e. pass e.1) es) (filter (λ e. pass e.1) es))) ≡ cond b 1 0 + many es
      by true = omega arith
      by false = omega arith

  put_most : (k : ℕ) (x : X) (es : List (ℕ × X)) → many (put nat_cmp k x es) ≤ cond (pass x) 1 0 + many es
  put_most k x [] = let one = many_cons (k, x) [] in omega (arith, one)
  put_most k x (e ∷ es) = by (nat_cmp k e.0) (put_most k x es)
    where
      by : (o : Ordering) → many (put nat_cmp k x es) ≤ cond (pass x) 1 0 + many es
          → many (by_order o ((k, x) ∷ e ∷ es) ((e.0, x) ∷ es) (e ∷ put nat_cmp k x es)) ≤ cond (pass x) 1 0 + many (e ∷ es)
      by Less rest = let one = many_cons (k, x) (e ∷ es) in omega (arith, one)
      by Equal rest = let one = many_cons (e.0, x) es in let before = many_cons e es in omega (arith, one, before)
      by Greater rest = let one = many_cons e (put nat_cmp k x es) in let before = many_cons e es in omega (arith, one, before, rest)

  -- one that is put where none was is one more, if it passes
  put_new : (k : ℕ) (x : X) (es : List (ℕ × X)) → find nat_cmp k es ≡ None → many (put nat_cmp k x es) ≡ cond (pass x) 1 0 + many es
  put_new k x [] none = many_cons (k, x) []
  put_new k x (e ∷ es) none = by (nat_cmp k e.0) none (put_new k x es)
    where
      by : (o : Ordering) → cond (is_eq o) (Some e.1) (find nat_cmp k es) ≡ None → (find nat_cmp k es ≡ None → many (put nat_cmp k x es) ≡ cond (pass x) 1 0 + many es)
          → many (by_order o ((k, x) ∷ e ∷ es) ((e.0, x) ∷ es) (e ∷ put nat_cmp k x es)) ≡ cond (pass x) 1 0 + many (e ∷ es)
      by Less there rest = many_cons (k, x) (e ∷ es)
      by Equal there rest = absurd (cc)
      by Greater there rest = let one = many_cons e (put nat_cmp k x es) in let before = many_cons e es in let more = rest there in omega (arith, one, before, more)

  none_of_none : (es : List (ℕ × X)) → length es ≡ 0 → many es ≡ 0
  none_of_none [] none = refl
  none_of_none (e ∷ es) none = absurd (omega (arith, none))

  -- ---- of tables

  put_few : (t : Table X) (k : ℕ) (x : X) → many (entries (insert t k x)) ≤ cond (pass x) 1 0 + many (entries t)
  put_few t k x = let same = ap many (entries-insert nat_cmp_total t k x) in let most = put_most k x (entries t) in omega (arith, same, most)

  -- no more once one is taken out: as many as with one in its place that doesn't pass
  gone_few : (t : Table X) (k : ℕ) (x : X) → pass x ≡ false → many (entries (remove t k)) ≤ many (entries t)
  gone_few t k x fails =
      let same = ap (λ (m : Table X). many (entries m)) (put_back t k x) in
      let new = ap many (entries-insert nat_cmp_total (remove t k) k x) ∙ put_new k x (entries (remove t k)) (sym (get-entries (remove t k) k) ∙ get_gone t k) in
      let most = put_few t k x in
      let none = no_more (pass x) fails in
      omega (arith, same, new, most, none)
    where
      no_more : (b : Bool) → b ≡ false → ◌≡◌ {A = ℕ} (cond b 1 0) 0
      no_more true is = absurd (cc)
      no_more false is = refl

  none_few : many (entries (empty {X = X} {R = nat_cmp})) ≡ 0
  none_few = none_of_none (entries empty) (sym (len-entries empty) ∙ len-empty nat_cmp X)

-- ---- turns

few_same : (s s' : State) → s'.exchanges ≡ s.exchanges → FewWait s → FewWait s'
few_same s s' same few f = subst (λ (t : Table OpenExchange). length (waiting_for f t) ≤ most_waiting) (sym same) (few f)

few_less : (n : ℕ) (y : OpenExchange) (s s' : State) → s'.exchanges ≡ remove s.exchanges n → FewWait s → FewWait s'
few_less n y s s' same few f =
    let now = ap (λ (t : Table OpenExchange). length (waiting_for f t)) same in
    let less = gone_few (λ (x : OpenExchange). waits_for f x.waits_for) s.exchanges n (released y) refl in
    let before = few f in
    omega (arith, now, less, before)

few_alone : (n : ℕ) (y : OpenExchange) (s s' : State) → s'.exchanges ≡ insert s.exchanges n y → y.waits_for ≡ None → FewWait s → FewWait s'
few_alone n y s s' same alone few f =
    let now = ap (λ (t : Table OpenExchange). length (waiting_for f t)) same in
    let most = put_few (λ (x : OpenExchange). waits_for f x.waits_for) s.exchanges n y in
    let none : ◌≡◌ {A = ℕ} (cond (waits_for f y.waits_for) 1 0) 0 = ap (λ (o : Option ℕ). cond (waits_for f o) 1 0) alone in
    let before = few f in
    omega (arith, now, most, none, before)

few_joined : (n g : ℕ) (y : OpenExchange) (s s' : State) → s'.exchanges ≡ insert s.exchanges n y → y.waits_for ≡ Some g → length (waiting_for g s.exchanges) < most_waiting
    → FewWait s → FewWait s'
few_joined n g y s s' same joins place few f =
    let now = ap (λ (t : Table OpenExchange). length (waiting_for f t)) same in
    let most = put_few (λ (x : OpenExchange). waits_for f x.waits_for) s.exchanges n y in
    ⊎_elim
    (λ (its : g ≡ f).
    let one = at_most (waits_for f y.waits_for) in
    let room : length (waiting_for f s.exchanges) < most_waiting = subst (λ (h : ℕ). length (waiting_for h s.exchanges) < most_waiting) its place in
    omega (arith, now, most, one, room))
    (λ (other : g ≡ f → ⊥).
    let none : ◌≡◌ {A = ℕ} (cond (waits_for f y.waits_for) 1 0) 0 = ap (λ (o : Option ℕ). cond (waits_for f o) 1 0) joins ∙ ap (λ (b : Bool). cond b 1 0) (ne_eqb g f other) in
    let before = few f in
    omega (arith, now, most, none, before))
    (cases_eq g f)
  where
    at_most : (b : Bool) → cond b 1 0 ≤ 1
    at_most true = omega arith
    at_most false = omega arith

asking_few : (settings : CoreSettings) (c : ℕ) (s : State) (actions : List Action) (s' : State) → Asks settings c s actions s' → FewWait s → FewWait s'
asking_few settings c s actions s' t few = by_reaction t.reaction refl t.does
  where
    by_reaction : (r : Reaction) → t.reaction ≡ r → DoesReaction r (arrived_on c t.connection t.size (whole_request settings s t.request t.target t.connection)) s actions s' → FewWait s'
    by_reaction (RepliesAtOnce reply None) is d = few_same s s' d.keeps.exchanges few
    by_reaction (RepliesAtOnce reply (Some validation)) is d = few_same s s' d.exchanges few
    by_reaction (Sends forward why kind) is d =
        few_alone (one_more s.numbers.exchange) (opened (arrived_on c t.connection t.size (whole_request settings s t.request t.target t.connection)) None) s s' d.exchanges refl few
    by_reaction (Waits f) is d =
        let may = joins_it (whole_request settings s t.request t.target t.connection) (open_now s) s.store s'.store t.reaction f t.reacts is in
        few_joined (one_more s.numbers.exchange) f (opened (arrived_on c t.connection t.size (whole_request settings s t.request t.target t.connection)) (Some f)) s s' d.exchanges refl may.has_place few

outcome_few : (ended : Ended) (asker : Asker) (o : Outcome) (s : State) (actions : List Action) (s' : State) → DoesOutcome o ended asker s actions s' → FewWait s → FewWait s'
outcome_few ended asker (Replies reply) s actions s' d few = few_less ended.exchange asker.exchange s s' d.exchanges few
outcome_few ended asker GoesAnew s actions s' d few = few_same s s' d.keeps.exchanges few

turn_few : (settings : CoreSettings) (turn : Turn) (s : State) (actions : List Action) (s' : State) → Takes settings turn s actions s' → FewWait s → FewWait s'
turn_few settings (Opening c) s actions s' t few = few_same s s' t.keeps.exchanges few
turn_few settings (ClientSending c octets) s actions s' t few = few_same s s' t.keeps.exchanges few
turn_few settings (Asking c) s actions s' t few = asking_few settings c s actions s' t few
turn_few settings (Refusal c status) s actions s' t few = few_same s s' t.keeps.exchanges few
turn_few settings (Dropping c) s actions s' t few = few_same s s' t.keeps.exchanges few
turn_few settings (Leaving c) s actions s' t few = few_same s s' t.keeps.exchanges few
turn_few settings (Closing c) s actions s' t few = few_same s s' t.keeps.exchanges few
turn_few settings (OriginSending f octets) s actions s' t few = few_same s s' t.keeps.exchanges few
turn_few settings (Answering f ended) s actions s' t few = by_purpose t.awaited.forward.purpose t.ends
  where
    by_purpose : (p : Purpose) → EndsByResponse p settings (answered_now f t.awaited.forward t.response t.renewed s) s actions s' → FewWait s'
    by_purpose purpose.Background d = few_same s s' d.1.keeps.exchanges few
    by_purpose (purpose.Reply e why kind) d =
        outcome_few (record { forward = f; exchange = e; why = why; first = (answered_now f t.awaited.forward t.response t.renewed s).first })
        (asker_now settings s d.exchange d.connection) d.outcome s actions s' d.does few
turn_few settings (Failing f how) s actions s' t few = by_purpose t.awaited.forward.purpose t.ends
  where
    by_purpose : (p : Purpose) → EndsByFailure p settings (failed_now f t.awaited.forward.target how s) s actions s' → FewWait s'
    by_purpose purpose.Background d = few_same s s' d.1.keeps.exchanges few
    by_purpose (purpose.Reply e why kind) d =
        outcome_few (record { forward = f; exchange = e; why = why; first = (failed_now f t.awaited.forward.target how s).first })
        (asker_now settings s d.exchange d.connection) d.outcome s actions s' d.does few
turn_few settings (Releasing k) s actions s' t few = by_choice (shared s.numbers.moment t.chosen) t.does
  where
    by_choice : (o : Option Stored) → DoesRelease o k (asker_now settings s t.exchange t.connection) s actions s' → FewWait s'
    by_choice (Some stored) d = few_less k t.exchange s s' d.exchanges few
    by_choice None d = few_alone k (released t.exchange) s s' d.exchanges refl few
turn_few settings Stopping s actions s' t few = few_same s s' t.keeps.exchanges few

run_few : (settings : CoreSettings) (turns : List Turn) (s : State) (actions : List Action) (s' : State) → Run settings turns s actions s' → FewWait s → FewWait s'
run_few settings [] s actions s' r few = subst FewWait (sym r.1) few
run_few settings (turn ∷ turns) s actions s' r few = run_few settings turns r.0 r.2 s' r.5 (turn_few settings turn s r.1 r.0 r.3 few)

pub event_few : (settings : CoreSettings) (event : Event) (s : State) (actions : List Action) (s' : State) → FewWait s → Serves settings event s actions s' → FewWait s'
event_few settings event s actions s' few v = run_few settings v.turns (passed_to event.moment s) actions s' v.run few

-- ---- steps

pub steps_few : (settings : CoreSettings) (options : CoreOptions) (events : List Event) (results : List StepResult) (s : State) → Steps settings (new_state_with settings options) events results (Some s) → FewWait s
steps_few settings options events results s steps =
    steps_keep settings FewWait (event_few settings) events results (new_state_with settings options) s steps
    (λ f. let none = none_few (λ (x : OpenExchange). waits_for f x.waits_for) in omega (arith, none))

pub runs_few : (settings : CoreSettings) (options : CoreOptions) (events : List Event) (results : List StepResult) (records : List Record) (s : State)
    → Runs settings (new_state_with settings options) nothing_yet events results records (Some s) → FewWait s
runs_few settings options events results records s runs = steps_few settings options events results s (runs_steps settings events results (new_state_with settings options) nothing_yet records (Some s) runs)
