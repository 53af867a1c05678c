-- Those that wait for a forward can be released once it has ended, one after another.
use Rattle.std.proofs.Common.{◌≡◌, ℕ, Bool, true, false, ◌||◌, List, [], ◌∷◌, ◌++◌, Option, Some, None, refl, sym, ap, ◌∙◌, subst, ⊎_elim, option_map}
use Rattle.std.specs.FinMap.{get, insert, remove}
use Rattle.std.specs.List.{AllByRecursion}
use Rattle.std.specs.Ordering.{nat_cmp}
use Rattle.std.specs.declared.cmp.Ordering.TheVariants.{Less}
use Rattle.std.proofs.lemmas.Map.Keys.{sorted_head, sorted_tail}
use Rattle.hc_service.specs.declared.action.Action.{Action}
use Rattle.hc_service.specs.declared.open.OpenExchange.{OpenExchange}
use Rattle.hc_service.specs.declared.open.Purpose.{Purpose}
use Rattle.hc_service.specs.declared.open.Purpose.TheVariants as purpose
use Rattle.hc_service.specs.declared.settings.CoreSettings.{CoreSettings}
use Rattle.hc_service.specs.Agreement.{AwaitsThere, IsReady}
use Rattle.hc_service.specs.Answers.{Outcome}
use Rattle.hc_service.specs.Answers.Outcome.{Replies, GoesAnew}
use Rattle.hc_service.specs.Joining.{shared, waiting_for, waits_for}
use Rattle.hc_service.specs.Serves.{connections_of, listed}
use Rattle.hc_service.specs.State.{State, Table, Connection, exchange_for}
use Rattle.hc_service.specs.Turns.{Answers, Asker, Breaks, DoesOutcome, DoesRelease, Ended, EndsByFailure, EndsByResponse, Failure, Releases, answered_now, asker_now, failed_now, released, wanted_now}
use Rattle.hc_service.proofs.LinkLemmas.{one_of}
use Rattle.hc_service.proofs.QuietLemmas.{KeepsOthers, others_replied}
use Rattle.hc_service.proofs.TableLemmas.{get_left, get_other, was_left, was_put}
use Rattle.hc_update.specs.declared.stored.Stored.{Stored}
use Rattle.hc_open.specs.Groups.{AreNumbers, is_among, passes_at}
use Rattle.hc_open.specs.Links.{waits_at}
use Rattle.hc_open.proofs.GroupLemmas.{are_where, one_list, passes_gone, same_numbers, was_so}
use Rattle.hc_open.proofs.TableLemmas.{test_same}
use Rattle.hc_core.specs.Waiting.{AllAwait, CanFinish, CanRelease, IsWaiting}

-- ---- the same table, and one without an exchange

same_at : (t u : Table OpenExchange) (d : ℕ) → u ≡ t → get u d ≡ get t d
same_at t u d same = ap (λ (t : Table OpenExchange). get t d) same

await_same : (s s' : State) → s'.exchanges ≡ s.exchanges → s'.connections ≡ s.connections → AllAwait s → AllAwait s'
await_same s s' exchanges connections all e x is =
    let on = all e x (sym (same_at s.exchanges s'.exchanges e exchanges) ∙ is) in
    record { connection = on.connection; is_open = ap (λ (t : Table Connection). get t x.connection) connections ∙ on.is_open; awaits = on.awaits }

one_more_is : (d e : ℕ) → Some d ≡ Some e → d ≡ e
one_more_is d e same = cc

-- the others await their replies still
pub await_answered : (s s' : State) (e : ℕ) (x : OpenExchange) → AllAwait s → get s.exchanges e ≡ Some x → s'.exchanges ≡ remove s.exchanges e
    → KeepsOthers (x.connection ∷ []) s s' → AllAwait s'
await_answered s s' e x all there exchanges keeps d y is =
    let was = was_left s.exchanges e d y (sym (same_at (remove s.exchanges e) s'.exchanges d exchanges) ∙ is) in
    let on = all d y was.1 in
    let its = all e x there in
    record {
      connection = on.connection;
      is_open = keeps y.connection (λ among. ⊎_elim
          (λ (same : x.connection ≡ y.connection). was.0 (one_more_is e d
          (sym its.awaits ∙ ap (λ (k : Connection). k.exchange) (one_of (get s.connections y.connection) its.connection on.connection
          (ap (get s.connections) (sym same) ∙ its.is_open) on.is_open) ∙ on.awaits)))
          (λ (none : ⊥). none) among) ∙ on.is_open;
      awaits = on.awaits;
    }

-- ---- lists of numbers

or_right : (b c : Bool) → c ≡ true → (b || c) ≡ true
or_right true c t = refl
or_right false c t = t

pub all_among : (P : ℕ → Type 0) (ks : List ℕ) → ((n : ℕ) → is_among ks n ≡ true → P n) → AllByRecursion P ks
all_among P [] each = tt
all_among P (k ∷ ks) each = (each k (ap (λ (b : Bool). b || is_among ks k) (test_same k)), all_among P ks (λ n is. each n (or_right _ (is_among ks n) is)))

-- what waits for a forward waits
waits_by : (f n : ℕ) (s : State) (o : Option OpenExchange) → get s.exchanges n ≡ o → passes_at (waits_at f) o ≡ true → IsWaiting n s
waits_by f n s None is passes = absurd (cc)
waits_by f n s (Some x) is passes =
    let w = of_one f x.waits_for passes in record { exchange = x; is_open = is; forward = w.0; waits = w.1 }
  where
    of_one : (f : ℕ) (o : Option ℕ) → waits_for f o ≡ true → (g : ℕ) × (o ≡ Some g)
    of_one f None passes = absurd (cc)
    of_one f (Some g) passes = (g, refl)

waiting_numbers : (f : ℕ) (t : Table OpenExchange) → AreNumbers (waiting_for f t) (λ n. passes_at (waits_at f) (get t n))
waiting_numbers f t = are_where (waits_at f) t

-- they can be released in that state
pub can_release : (f : ℕ) (s : State) → AllAwait s → CanRelease (waiting_for f s.exchanges) s
can_release f s all = record {
  rise = (waiting_numbers f s.exchanges).rise;
  wait = all_among (λ e. IsWaiting e s) (waiting_for f s.exchanges) (λ n is. waits_by f n s (get s.exchanges n) refl (sym ((waiting_numbers f s.exchanges).are n) ∙ is));
  await = all;
}

-- ---- a forward ends

module _ (f : ℕ) (s s' : State) where
  finish_by : waiting_for f s'.exchanges ≡ waiting_for f s.exchanges → AllAwait s'
      → connections_of s'.exchanges (waiting_for f s.exchanges) ≡ connections_of s.exchanges (waiting_for f s.exchanges) → CanFinish f s s'
  finish_by same all there = record { can = subst (λ (ks : List ℕ). CanRelease ks s') same (can_release f s' all); same = same; there = there }

  -- no exchange changes
  finish_same : s'.exchanges ≡ s.exchanges → s'.connections ≡ s.connections → AllAwait s → CanFinish f s s'
  finish_same exchanges connections all =
      finish_by (ap (waiting_for f) exchanges) (await_same s s' exchanges connections all) (ap (λ (t : Table OpenExchange). connections_of t (waiting_for f s.exchanges)) exchanges)

  -- one that didn't wait for it has its reply
  finish_answered : (e : ℕ) (x : OpenExchange) → get s.exchanges e ≡ Some x → x.waits_for ≡ None → s'.exchanges ≡ remove s.exchanges e
      → KeepsOthers (x.connection ∷ []) s s' → AllAwait s → CanFinish f s s'
  finish_answered e x there alone exchanges keeps all =
      finish_by (ap (waiting_for f) exchanges ∙ without) (await_answered s s' e x all there exchanges keeps)
      (ap (λ (t : Table OpenExchange). connections_of t (waiting_for f s.exchanges)) exchanges ∙ connections (waiting_for f s.exchanges) others)
    where
      not_it : passes_at (waits_at f) (get s.exchanges e) ≡ false
      not_it = ap (passes_at (waits_at f)) there ∙ ap (waits_for f) alone

      without : waiting_for f (remove s.exchanges e) ≡ waiting_for f s.exchanges
      without = one_list _ _ (λ n. passes_at (waits_at f) (get s.exchanges n))
          (same_numbers _ _ _ (λ n. passes_gone s.exchanges e (waits_at f) n ∙ sym (was_so s.exchanges e (waits_at f) false n not_it)) (waiting_numbers f (remove s.exchanges e)))
          (waiting_numbers f s.exchanges)

      true_false : true ≡ false → ⊥
      true_false t = cc

      others : AllByRecursion (λ n. e ≡ n → ⊥) (waiting_for f s.exchanges)
      others = all_among (λ n. e ≡ n → ⊥) (waiting_for f s.exchanges)
          (λ n is same. true_false (sym (sym ((waiting_numbers f s.exchanges).are n) ∙ is) ∙ ap (λ (m : ℕ). passes_at (waits_at f) (get s.exchanges m)) (sym same) ∙ not_it))

      connections : (ks : List ℕ) → AllByRecursion (λ n. e ≡ n → ⊥) ks → connections_of (remove s.exchanges e) ks ≡ connections_of s.exchanges ks
      connections [] apart = refl
      connections (k ∷ ks) apart = λ i.
          listed (option_map (λ (x : OpenExchange). x.connection) (get_left s.exchanges e k apart.0 i)) ++ connections ks apart.1 i

  outcome_finishes : (o : Outcome) (ended : Ended) (asker : Asker) (actions : List Action) → get s.exchanges ended.exchange ≡ Some asker.exchange → asker.exchange.waits_for ≡ None
      → DoesOutcome o ended asker s actions s' → AllAwait s → CanFinish f s s'
  outcome_finishes (Replies reply) ended asker actions there alone d all =
      finish_answered ended.exchange asker.exchange there alone d.exchanges
      (others_replied asker.wanted.closes asker.exchange.connection asker.connection.unread asker.connection s s' d.connections) all
  outcome_finishes GoesAnew ended asker actions there alone d all = finish_same d.keeps.exchanges d.keeps.connections all

  module _ (settings : CoreSettings) (actions : List Action) (ready : IsReady s) where
    pub answer_finishes : (ended : Bool) → Answers settings f ended s actions s' → CanFinish f s s'
    answer_finishes ended t = by t.awaited.forward.purpose refl t.ends
      where
        by : (p : Purpose) → t.awaited.forward.purpose ≡ p → EndsByResponse p settings (answered_now f t.awaited.forward t.response t.renewed s) s actions s' → CanFinish f s s'
        by purpose.Background is d = finish_same d.1.keeps.exchanges d.1.keeps.connections ready.connections
        by (purpose.Reply e why kind) is d =
            outcome_finishes d.outcome _ (asker_now settings s d.exchange d.connection) actions d.awaits
            (ready.alone f e t.awaited d.exchange t.is_open (ap exchange_for is) d.awaits) d.does ready.connections

    pub failure_finishes : (how : Failure) → Breaks settings f how s actions s' → CanFinish f s s'
    failure_finishes how t = by t.awaited.forward.purpose refl t.ends
      where
        by : (p : Purpose) → t.awaited.forward.purpose ≡ p → EndsByFailure p settings (failed_now f t.awaited.forward.target how s) s actions s' → CanFinish f s s'
        by purpose.Background is d = finish_same d.1.keeps.exchanges d.1.keeps.connections ready.connections
        by (purpose.Reply e why kind) is d =
            outcome_finishes d.outcome _ (asker_now settings s d.exchange d.connection) actions d.awaits
            (ready.alone f e t.awaited d.exchange t.is_open (ap exchange_for is) d.awaits) d.does ready.connections

-- ---- one is released

less_apart : (e d : ℕ) → nat_cmp e d ≡ Less → e ≡ d → ⊥
less_apart e d less same = no (sym less ∙ ap (nat_cmp e) (sym same)) (test_same e)
  where
    no : Less ≡ nat_cmp e e → Rattle.std.specs.Ordering.is_eq (nat_cmp e e) ≡ true → ⊥
    no a b = cc

module _ (settings : CoreSettings) (e : ℕ) (s : State) (actions : List Action) (s' : State) (t : Releases settings e s actions s') where
  -- the other exchanges stay
  others_stay : (o : Option Stored) → DoesRelease o e (asker_now settings s t.exchange t.connection) s actions s' → (d : ℕ) → (e ≡ d → ⊥) → get s'.exchanges d ≡ get s.exchanges d
  others_stay (Some stored) does d apart = same_at (remove s.exchanges e) s'.exchanges d does.exchanges ∙ get_left s.exchanges e d apart
  others_stay None does d apart = same_at (insert s.exchanges e (released t.exchange)) s'.exchanges d does.exchanges ∙ get_other s.exchanges e (released t.exchange) d apart

  await_released : (o : Option Stored) → DoesRelease o e (asker_now settings s t.exchange t.connection) s actions s' → AllAwait s → AllAwait s'
  await_released (Some stored) does all =
      await_answered s s' e t.exchange all t.awaits does.exchanges
      (others_replied (wanted_now settings s t.exchange.request t.connection).closes t.exchange.connection t.connection.unread t.connection s s' does.connections)
  await_released None does all = λ d y is.
      let on : AwaitsThere s.connections d y = ⊎_elim
      (λ (p : (e ≡ d) × (released t.exchange ≡ y)). subst (λ (q : ℕ × OpenExchange). AwaitsThere s.connections q.0 q.1) (λ i. (p.0 i, p.1 i))
      (let own = all e t.exchange t.awaits in record { connection = own.connection; is_open = own.is_open; awaits = own.awaits }))
      (λ (p : (e ≡ d → ⊥) × (get s.exchanges d ≡ Some y)). all d y p.1)
      (was_put s.exchanges e (released t.exchange) d y (sym (same_at (insert s.exchanges e (released t.exchange)) s'.exchanges d does.exchanges) ∙ is)) in
      record { connection = on.connection; is_open = ap (λ (k : Table Connection). get k y.connection) does.connections ∙ on.is_open; awaits = on.awaits }

  still : (es : List ℕ) → AllByRecursion (λ d. nat_cmp e d ≡ Less) es → AllByRecursion (λ d. IsWaiting d s) es → AllByRecursion (λ d. IsWaiting d s') es
  still [] above wait = tt
  still (d ∷ es) above wait = (
    record {
      exchange = wait.0.exchange;
      is_open = others_stay (shared s.numbers.moment t.chosen) t.does d (less_apart e d above.0) ∙ wait.0.is_open;
      forward = wait.0.forward;
      waits = wait.0.waits;
    },
    still es above.1 wait.1,
  )

  -- the rest can be
  pub can_still : (es : List ℕ) → CanRelease (e ∷ es) s → CanRelease es s'
  can_still es can = record {
    rise = sorted_tail nat_cmp e es can.rise;
    wait = still es (sorted_head nat_cmp e es can.rise) can.wait.1;
    await = await_released (shared s.numbers.moment t.chosen) t.does can.await;
  }

  connections_by : (es : List ℕ) → AllByRecursion (λ d. nat_cmp e d ≡ Less) es → connections_of s'.exchanges es ≡ connections_of s.exchanges es
  connections_by [] above = refl
  connections_by (d ∷ es) above = λ i.
      listed (option_map (λ (x : OpenExchange). x.connection) (others_stay (shared s.numbers.moment t.chosen) t.does d (less_apart e d above.0) i)) ++ connections_by es above.1 i

  -- on the same connections
  pub connections_still : (es : List ℕ) → CanRelease (e ∷ es) s → connections_of s'.exchanges es ≡ connections_of s.exchanges es
  connections_still es can = connections_by es (sorted_head nat_cmp e es can.rise)
