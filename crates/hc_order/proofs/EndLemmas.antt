-- What the end of a client and of a forward leave, behind each event.
use Rattle.std.proofs.Common.{◌≡◌, ◌⊎◌, ℕ, ◌≤◌, ◌<◌, Bool, true, false, cond, List, [], ◌∷◌, ◌++◌, map, Option, Some, None, Ok, Err, nat_eq, refl, sym, ap, ◌∙◌, subst, arith, inl, inr, ⊎_elim}
use Rattle.std.specs.Prelude.{is_some}
use Rattle.std.specs.FinMap.{get, insert, remove}
use Rattle.std.proofs.lemmas.Bool.{cases_lt, eqb-true}
use Rattle.std.proofs.lemmas.Bool.Decides.{nat_tests}
use Rattle.hc_transcript.specs.declared.record.Record.{Record}
use Rattle.hc_transcript.specs.Limits.{greatest_number}
use Rattle.hc_service.specs.declared.event.Event.{Event}
use Rattle.hc_service.specs.declared.event.Happening.{Happening}
use Rattle.hc_service.specs.declared.event.Happening.TheVariants.{ClientOpened, ClientBytes, ClientEnd, OriginBytes, OriginEnd, OriginFailed, Stopping}
use Rattle.hc_service.specs.declared.action.Action.{Action}
use Rattle.hc_service.specs.declared.action.Action.TheVariants as action
use Rattle.hc_service.specs.declared.fault.StepFault.TheVariants.{Memory, MomentTooLarge, UnknownNumber, TooManyConnections, Failed}
use Rattle.hc_service.specs.declared.settings.CoreOptions.{CoreOptions}
use Rattle.hc_service.specs.declared.settings.CoreSettings.{CoreSettings}
use Rattle.hc_service.specs.Agreement.{Agrees, History}
use Rattle.hc_service.specs.Follows.{Follows, forward_after, lost_by}
use Rattle.hc_service.specs.Joining.{waiting_for}
use Rattle.hc_service.specs.Numbers.{is_later}
use Rattle.hc_service.specs.Runs.{Runs, StepResult, Steps}
use Rattle.hc_service.specs.State.{State, Table, Connection, Awaited, new_connection, new_state_with}
use Rattle.hc_service.specs.Turns.{Opens, after_leaving}
use Rattle.hc_service.specs.Turns.Failure.{IsCutOff, IsLost}
use Rattle.hc_service.specs.Serves.{Turn, Takes, Run, OwesEnd, OwesReply, Owes, Serves, clients_of, passed_to}
use Rattle.hc_service.specs.Serves.Turn.{Opening, Refusal, Leaving, Closing, Answering, Failing, Releasing}
use Rattle.hc_service.proofs.FollowLemmas.{event_follows}
use Rattle.hc_service.proofs.LeftLemmas.{steps_keep}
use Rattle.hc_service.proofs.LinkLemmas.{none_some, one_of}
use Rattle.hc_service.proofs.TableLemmas.{get_gone, get_none, get_other, get_same, was_put}
use Rattle.hc_order.specs.Resting.{AwaitWhereLeft, HasEnded, IsOver, ended_behind, ended_behind_all, open_behind, open_behind_all}
use Rattle.hc_order.proofs.LeavingLemmas.{EndedAt, Ends, Passes, answering_ends, at_same, failing_ends, plain_behind, plain_owed, run_passes}

-- ---- one turn alone

alone : (settings : CoreSettings) (turn : Turn) (turns : List Turn) (s : State) (actions : List Action) (s' : State) → turns ≡ turn ∷ [] → Run settings turns s actions s'
    → (first : List Action) × Takes settings turn s first s'
alone settings turn turns s actions s' is run =
    let r = subst (λ (turns : List Turn). Run settings turns s actions s') is run in
    (r.1, subst (λ (mid : State). Takes settings turn s r.1 mid) (sym r.5.1) r.3)

-- ---- events that open a connection, and others

opens_or_not : (happening : Happening) → ((d : ℕ) × (happening ≡ ClientOpened d)) ⊎ ((d : ℕ) → happening ≡ ClientOpened d → ⊥)
opens_or_not (ClientOpened c) = inl (c, refl)
opens_or_not (ClientBytes c octets) = inr (λ d e. cc)
opens_or_not (ClientEnd c) = inr (λ d e. cc)
opens_or_not (OriginBytes f octets) = inr (λ d e. cc)
opens_or_not (OriginEnd f) = inr (λ d e. cc)
opens_or_not (OriginFailed f) = inr (λ d e. cc)
opens_or_not Stopping = inr (λ d e. cc)

-- ---- what actions leave open

-- they leave it open where it was, if they do so where something else was
after_more : (f : ℕ) (actions : List Action) (a b : Bool) → (a ≡ true → b ≡ true) → forward_after f actions a ≡ true → forward_after f actions b ≡ true
after_more f [] a b more is = more is
after_more f (action.ToClient d octets ∷ actions) a b more is = after_more f actions a b more is
after_more f (action.CloseClient d ∷ actions) a b more is = after_more f actions a b more is
after_more f (action.Forward g octets ∷ actions) a b more is = after_more f actions (cond (nat_eq g f) true a) (cond (nat_eq g f) true b) (opened (nat_eq g f)) is
  where
    opened : (c : Bool) → cond c true a ≡ true → cond c true b ≡ true
    opened true is = is
    opened false is = more is
after_more f (action.CloseForward g ∷ actions) a b more is = after_more f actions (cond (nat_eq g f) false a) (cond (nat_eq g f) false b) (closed (nat_eq g f)) is
  where
    closed : (c : Bool) → cond c false a ≡ true → cond c false b ≡ true
    closed true is = is
    closed false is = more is
after_more f (action.Record r ∷ actions) a b more is = after_more f actions a b more is

-- ---- numbers of connections

false_true : false ≡ true → ⊥
false_true e = cc

-- what was opened isn't opened again
not_itself : (c d : ℕ) (last : Option ℕ) → is_later c last ≡ false → is_later d last ≡ true → d ≡ c → ⊥
not_itself c d last opened later e = false_true (sym opened ∙ ap (λ (n : ℕ). is_later n last) (sym e) ∙ later)

not_later : (c d : ℕ) (last : Option ℕ) → is_later c last ≡ false → is_later d last ≡ true → is_later c (Some d) ≡ false
not_later c d None opened later = absurd (cc)
not_later c d (Some last) opened later = grind (arith, nat_tests)

-- what is open was opened
opened_there : (c : ℕ) (last : Option ℕ) (k : Connection) (ks : Table Connection) → (is_later c last ≡ true → get ks c ≡ None) → get ks c ≡ Some k → is_later c last ≡ false
opened_there c last k ks none is = by (is_later c last) refl
  where
    by : (b : Bool) → is_later c last ≡ b → b ≡ false
    by true later = absurd (none_some (get ks c) k (none later) is)
    by false earlier = refl

module _ (settings : CoreSettings) (event : Event) (s : State) (actions : List Action) (s' : State) (v : Serves settings event s actions s') where
  event_passes : ((d : ℕ) → event.of ≡ ClientOpened d → ⊥) → Passes s s'
  event_passes other =
      let p = run_passes settings v.turns (passed_to event.moment s) actions s' (plain_owed event.of v.turns s s' other v.owes) v.run in
      record { last = p.last; leave = p.leave; over = p.over }

  event_opens : (d : ℕ) → event.of ≡ ClientOpened d → (first : List Action) × Opens d (passed_to event.moment s) first s'
  event_opens d is =
      alone settings (Opening d) v.turns (passed_to event.moment s) actions s' (subst (λ (happening : Happening). Owes happening v.turns s s') is v.owes) v.run

  -- ---- clients that have ended

  pub event_awaits : AwaitWhereLeft s → AwaitWhereLeft s'
  event_awaits was =
      ⊎_elim
      (λ (p : (d : ℕ) × (event.of ≡ ClientOpened d)). opened p.0 (event_opens p.0 p.1).1.connections)
      (λ (other : (d : ℕ) → event.of ≡ ClientOpened d → ⊥). (event_passes other).leave.await was)
      (opens_or_not event.of)
    where
      opened : (d : ℕ) → s'.connections ≡ insert s.connections d new_connection → AwaitWhereLeft s'
      opened d same c k is leaves =
          ⊎_elim
          (λ (p : (d ≡ c) × (new_connection ≡ k)). absurd (false_true (ap (λ (k : Connection). k.leaves) p.1 ∙ leaves)))
          (λ (p : (d ≡ c → ⊥) × (get s.connections c ≡ Some k)). was c k p.1 leaves)
          (was_put s.connections d new_connection c k (sym (at_same (insert s.connections d new_connection) s'.connections c same) ∙ is))

  pub event_stays : (c : ℕ) → HasEnded c s → HasEnded c s'
  event_stays c was =
      ⊎_elim
      (λ (p : (d : ℕ) × (event.of ≡ ClientOpened d)). opened p.0 (event_opens p.0 p.1).1)
      (λ (other : (d : ℕ) → event.of ≡ ClientOpened d → ⊥).
      let passes = event_passes other in
      record { was_opened = ap (is_later c) passes.last ∙ was.was_opened; is_left = passes.leave.ended c was.is_left })
      (opens_or_not event.of)
    where
      opened : (d : ℕ) {first : List Action} → Opens d (passed_to event.moment s) first s' → HasEnded c s'
      opened d t = record {
        was_opened = ap (λ n. is_later c n.connection) t.numbers ∙ not_later c d s.numbers.connection was.was_opened t.later;
        is_left = λ k is.
            was.is_left k
            (sym (at_same (insert s.connections d new_connection) s'.connections c t.connections
            ∙ get_other s.connections d new_connection c (not_itself c d s.numbers.connection was.was_opened t.later)) ∙ is);
      }

  pub event_ends : (h : History) (c : ℕ) → Agrees s h → event.of ≡ ClientEnd c → HasEnded c s'
  event_ends h c a is =
      let owes = subst (λ (happening : Happening). Owes happening v.turns s s') is v.owes in
      record {
        was_opened = ap (is_later c) (event_passes (λ d opens. apart d (sym is ∙ opens))).last
            ∙ opened_there c s.numbers.connection owes.0 s.connections (a.consistent.linked.later c) owes.1;
        is_left = by owes.0 owes.0.leaves owes.0.exchange owes.1 refl owes.2;
      }
    where
      apart : (d : ℕ) → ClientEnd c ≡ ClientOpened d → ⊥
      apart d e = cc

      out : s'.connections ≡ remove s.connections c → EndedAt c s'.connections
      out same k there =
          absurd (none_some (get (remove s.connections c) c) k (get_gone s.connections c) (sym (at_same (remove s.connections c) s'.connections c same) ∙ there))

      by : (k : Connection) (leaves : Bool) (exchange : Option ℕ) → get s.connections c ≡ Some k → k.leaves ≡ leaves → OwesEnd c leaves exchange v.turns
          → EndedAt c s'.connections
      by k true exchange there leaves owes q now =
          let r = subst (λ (turns : List Turn). Run settings turns (passed_to event.moment s) actions s') owes v.run in
          let same = at_same s.connections s'.connections c (ap (λ (u : State). u.connections) r.1) in
          ap (λ (k : Connection). k.leaves) (one_of (get s.connections c) q k (sym same ∙ now) there) ∙ leaves
      by k false (Some e) there leaves owes q now =
          let t = (alone settings (Leaving c) v.turns (passed_to event.moment s) actions s' owes v.run).1 in
          let put = at_same (insert s.connections c (after_leaving t.connection)) s'.connections c t.connections ∙ get_same s.connections c (after_leaving t.connection) in
          ap (λ (k : Connection). k.leaves) (one_of (get s'.connections c) q (after_leaving t.connection) now put)
      by k false None there leaves (inl owes) q now = out (alone settings (Closing c) v.turns (passed_to event.moment s) actions s' owes v.run).1.connections q now
      by k false None there leaves (inr owes) q now = out (alone settings (Refusal c owes.0) v.turns (passed_to event.moment s) actions s' owes.1 v.run).1.connections q now

  -- as the event tells it
  pub event_told : (h : History) (c : ℕ) (was : Bool) → Agrees s h → (was ≡ true → HasEnded c s) → ended_behind c event.of was ≡ true → HasEnded c s'
  event_told h c was a before = by event.of refl
    where
      ended : (d : ℕ) (b : Bool) → event.of ≡ ClientEnd d → nat_eq d c ≡ b → cond b true was ≡ true → HasEnded c s'
      ended d true is same told = event_ends h c a (is ∙ ap ClientEnd (eqb-true d c same))
      ended d false is other told = event_stays c (before told)

      by : (happening : Happening) → event.of ≡ happening → ended_behind c happening was ≡ true → HasEnded c s'
      by (ClientEnd d) is told = ended d (nat_eq d c) is refl told
      by (ClientOpened d) is told = event_stays c (before told)
      by (ClientBytes d octets) is told = event_stays c (before told)
      by (OriginBytes f octets) is told = event_stays c (before told)
      by (OriginEnd f) is told = event_stays c (before told)
      by (OriginFailed f) is told = event_stays c (before told)
      by Stopping is told = event_stays c (before told)

  -- ---- forwards that have ended

  pub event_over : (f : ℕ) → f ≤ greatest_number → IsOver f s → IsOver f s'
  event_over f few over =
      ⊎_elim
      (λ (p : (d : ℕ) × (event.of ≡ ClientOpened d)). opened (event_opens p.0 p.1).1)
      (λ (none : (d : ℕ) → event.of ≡ ClientOpened d → ⊥).
      let is = (event_passes none).over f (omega (arith, few)) over.was_sent over.is_closed in record { was_sent = is.0; is_closed = is.1 })
      (opens_or_not event.of)
    where
      opened : {d : ℕ} {first : List Action} → Opens d (passed_to event.moment s) first s' → IsOver f s'
      opened t = record {
        was_sent = let sent = over.was_sent in let same = ap (λ n. n.forward) t.numbers in omega (arith, sent, same);
        is_closed = at_same s.forwards s'.forwards f t.keeps.forwards ∙ over.is_closed;
      }

  -- a turn ends the forward of that number, which is open before
  abbrev EndsIt : ℕ → Turn → Type 0
  EndsIt f turn =
      (first : List Action) (mid : State) → Takes settings turn (passed_to event.moment s) first mid
      → Ends f (passed_to event.moment s) mid × (a : Awaited) × (get s.forwards f ≡ Some a)

  reply_over : (h : History) (f : ℕ) (turn : Turn) → Agrees s h → EndsIt f turn → OwesReply f turn v.turns s s' → IsOver f s'
  reply_over h f turn a ends owes =
      let r = subst (λ (turns : List Turn). Run settings turns (passed_to event.moment s) actions s') owes.1 v.run in
      let one = ends r.1 r.0 r.3 in
      let sent = number one.1 one.2 in
      let less = few sent in
      let over = one.0.over less sent in
      let is =
      (run_passes settings (map Releasing (waiting_for f s.exchanges) ++ owes.0) r.0 r.2 s' (plain_behind (waiting_for f s.exchanges) (clients_of f s) owes.0 s' owes.2) r.5).over
      f less over.0 over.1 in
      record { was_sent = is.0; is_closed = is.1 }
    where
      -- what is open has a number that was given
      number : (b : Awaited) → get s.forwards f ≡ Some b → f ≤ s.numbers.forward
      number b is =
          ⊎_elim
          (λ (further : s.numbers.forward < f). absurd (none_some (get s.forwards f) b (a.consistent.asked.later_forwards f further) is))
          (λ (le : f ≤ s.numbers.forward). le)
          (cases_lt s.numbers.forward f)

      few : f ≤ s.numbers.forward → f < 18446744073709551615
      few sent = let forwards = a.consistent.counted.forwards in let records = a.consistent.counted.in_range in omega (arith, sent, forwards, records)

  pub end_over : (h : History) (f : ℕ) → Agrees s h → event.of ≡ OriginEnd f → IsOver f s'
  end_over h f a is =
      ⊎_elim
      (λ (owes : OwesReply f (Answering f true) v.turns s s').
      reply_over h f (Answering f true) a (λ first mid t. (answering_ends settings f true (passed_to event.moment s) first mid t, t.awaited, t.is_open)) owes)
      (λ (owes : OwesReply f (Failing f IsCutOff) v.turns s s').
      reply_over h f (Failing f IsCutOff) a (λ first mid t. (failing_ends settings f IsCutOff (passed_to event.moment s) first mid t, t.awaited, t.is_open)) owes)
      (subst (λ (happening : Happening). Owes happening v.turns s s') is v.owes)

  pub failure_over : (h : History) (f : ℕ) → Agrees s h → event.of ≡ OriginFailed f → IsOver f s'
  failure_over h f a is =
      reply_over h f (Failing f IsLost) a (λ first mid t. (failing_ends settings f IsLost (passed_to event.moment s) first mid t, t.awaited, t.is_open))
      (subst (λ (happening : Happening). Owes happening v.turns s s') is v.owes)

  -- what is open in the cache is open at its link, as the event and the actions tell it
  pub event_open : (h : History) (f : ℕ) (was : Bool) → Agrees s h → (is_some (get s.forwards f) ≡ true → was ≡ true) → is_some (get s'.forwards f) ≡ true
      → forward_after f actions (open_behind f event.of was) ≡ true
  event_open h f was a before now = by event.of refl
    where
      follows : Follows event.of s actions s'
      follows = event_follows settings event s actions s' (λ c is. a.consistent.linked.later c (event_opens c is).1.later) v

      -- by what the event leaves of it in the cache
      left : (happening : Happening) (b : Bool) → event.of ≡ happening → (lost_by f happening (is_some (get s.forwards f)) ≡ true → b ≡ true) → forward_after f actions b ≡ true
      left happening b is leaves =
          after_more f actions (lost_by f happening (is_some (get s.forwards f))) b leaves
          (ap (λ (happening : Happening). forward_after f actions (lost_by f happening (is_some (get s.forwards f)))) (sym is) ∙ sym (follows.forwards f) ∙ now)

      ended : (g : ℕ) (b : Bool) → event.of ≡ OriginEnd g → nat_eq g f ≡ b → forward_after f actions (cond b false was) ≡ true
      ended g true is same =
          absurd (false_true (sym (ap is_some (end_over h f a (is ∙ ap OriginEnd (eqb-true g f same))).is_closed) ∙ now))
      ended g false is other = left (OriginEnd g) was is before

      failed : (b x : Bool) → (x ≡ true → was ≡ true) → cond b false x ≡ true → cond b false was ≡ true
      failed true x leaves is = is
      failed false x leaves is = leaves is

      by : (happening : Happening) → event.of ≡ happening → forward_after f actions (open_behind f happening was) ≡ true
      by (OriginEnd g) is = ended g (nat_eq g f) is refl
      by (OriginFailed g) is = left (OriginFailed g) (cond (nat_eq g f) false was) is (failed (nat_eq g f) (is_some (get s.forwards f)) before)
      by (ClientOpened c) is = left (ClientOpened c) was is before
      by (ClientBytes c octets) is = left (ClientBytes c octets) was is before
      by (ClientEnd c) is = left (ClientEnd c) was is before
      by (OriginBytes g octets) is = left (OriginBytes g octets) was is before
      by Stopping is = left Stopping was is before

-- ---- in a new cache, and from there on

pub new_awaits : (settings : CoreSettings) (options : CoreOptions) → AwaitWhereLeft (new_state_with settings options)
new_awaits settings options c k is leaves = absurd (none_some (get (new_state_with settings options).connections c) k (get_none c) is)

pub steps_await : (settings : CoreSettings) (options : CoreOptions) (events : List Event) (results : List StepResult) (s : State) → Steps settings (new_state_with settings options) events results (Some s)
    → AwaitWhereLeft s
steps_await settings options events results s steps =
    steps_keep settings AwaitWhereLeft (λ event s actions s' was v. event_awaits settings event s actions s' v was) events results (new_state_with settings options) s steps (new_awaits settings options)

-- ---- runs

module _ (settings : CoreSettings) where
  pub runs_told : (c : ℕ) (events : List Event) (results : List StepResult) (s s' : State) (h : History) (records : List Record) (was : Bool)
      → Runs settings s h events results records (Some s') → (was ≡ true → HasEnded c s) → ended_behind_all c events results was ≡ true → HasEnded c s'
  runs_told c [] [] s s' h records was runs before told = subst (HasEnded c) (one_of (Some s') s s' runs.2 refl) (before told)
  runs_told c [] (result ∷ results) s s' h records was runs before told = absurd runs
  runs_told c (event ∷ events) [] s s' h records was runs before told = absurd runs
  runs_told c (event ∷ events) (Ok actions ∷ results) s s' h records was runs before told =
      runs_told c events results runs.1 s' runs.2 runs.3 (ended_behind c event.of was) runs.7
      (λ is. event_told settings event s actions.items runs.1 runs.4 h c was runs.0 before is) told
  runs_told c (event ∷ events) (Err Memory ∷ results) s s' h records was runs before told = absurd (none_some (Some s') s' runs.4 refl)
  runs_told c (event ∷ events) (Err MomentTooLarge ∷ results) s s' h records was runs before told = runs_told c events results s s' h records was runs.2 before told
  runs_told c (event ∷ events) (Err UnknownNumber ∷ results) s s' h records was runs before told = runs_told c events results s s' h records was runs.2 before told
  runs_told c (event ∷ events) (Err TooManyConnections ∷ results) s s' h records was runs before told = runs_told c events results s s' h records was runs.2 before told
  runs_told c (event ∷ events) (Err Failed ∷ results) s s' h records was runs before told = absurd runs

  pub runs_open : (f : ℕ) (events : List Event) (results : List StepResult) (s s' : State) (h : History) (records : List Record) (was : Bool)
      → Runs settings s h events results records (Some s') → (is_some (get s.forwards f) ≡ true → was ≡ true) → is_some (get s'.forwards f) ≡ true
      → open_behind_all f events results was ≡ true
  runs_open f [] [] s s' h records was runs before now =
      before (ap (λ (u : State). is_some (get u.forwards f)) (one_of (Some s') s s' runs.2 refl) ∙ now)
  runs_open f [] (result ∷ results) s s' h records was runs before now = absurd runs
  runs_open f (event ∷ events) [] s s' h records was runs before now = absurd runs
  runs_open f (event ∷ events) (Ok actions ∷ results) s s' h records was runs before now =
      runs_open f events results runs.1 s' runs.2 runs.3 (forward_after f actions.items (open_behind f event.of was)) runs.7
      (λ is. event_open settings event s actions.items runs.1 runs.4 h f was runs.0 before is) now
  runs_open f (event ∷ events) (Err Memory ∷ results) s s' h records was runs before now = absurd (none_some (Some s') s' runs.4 refl)
  runs_open f (event ∷ events) (Err MomentTooLarge ∷ results) s s' h records was runs before now = runs_open f events results s s' h records was runs.2 before now
  runs_open f (event ∷ events) (Err UnknownNumber ∷ results) s s' h records was runs before now = runs_open f events results s s' h records was runs.2 before now
  runs_open f (event ∷ events) (Err TooManyConnections ∷ results) s s' h records was runs before now = runs_open f events results s s' h records was runs.2 before now
  runs_open f (event ∷ events) (Err Failed ∷ results) s s' h records was runs before now = absurd runs
