-- Where no forward is open and the clients have ended, nothing is open; nor is anything before all others.
use Rattle.std.proofs.Common.{◌≡◌, ℕ, Bool, true, false, List, [], ◌∷◌, Option, Some, None, refl, sym, ap, ◌∙◌, subst, arith}
use Rattle.std.specs.FinMap.{empty, empty_of_len, get, len, len-empty, nat_cmp-IsAntisymmetric, same_map}
use Rattle.std.specs.Cmp.{nat_cmp_total}
use Rattle.std.specs.Option.{IsSome, is_some}
use Rattle.std.specs.Ordering.{nat_cmp}
use Rattle.hc_transcript.specs.declared.record.Record.{Record}
use Rattle.hc_service.specs.declared.event.Event.{Event}
use Rattle.hc_service.specs.declared.settings.CoreOptions.{CoreOptions}
use Rattle.hc_service.specs.declared.settings.CoreSettings.{CoreSettings}
use Rattle.hc_service.specs.Agreement.{Agrees, HasLeft, History}
use Rattle.hc_service.specs.Choices.{OnTest}
use Rattle.hc_service.specs.Joining.{AllHaveForwards, HasForward}
use Rattle.hc_service.specs.Numbers.{is_later}
use Rattle.hc_service.specs.Runs.{Runs, StepResult}
use Rattle.hc_service.specs.State.{State, Table, Connection, Awaited, new_state_with}
use Rattle.hc_service.proofs.ForwardLemmas.{runs_leave}
use Rattle.hc_service.proofs.LinkLemmas.{none_some}
use Rattle.hc_service.proofs.RunLemmas.{runs_agree, runs_to}
use Rattle.hc_service.proofs.TableLemmas.{get_none}
use Rattle.hc_order.specs.Log.{Beginning}
use Rattle.hc_order.specs.Log.Move.{Before}
use Rattle.hc_order.specs.Mirrors.{Mirrors}
use Rattle.hc_order.specs.Resting.{AllHaveEnded, AwaitWhereLeft, HasNoExchange, HasNoForward, IsAtRest, ended_behind_all, open_behind_all}
use Rattle.hc_order.proofs.EndLemmas.{runs_open, runs_told}

-- ---- tables

false_true : false ≡ true → ⊥
false_true e = cc

nothing_some : {X : Type 0} (o : Option X) → o ≡ None → IsSome o → ⊥
nothing_some o none is = false_true (sym (ap is_some none) ∙ is)

-- a table in which nothing is found is empty
none_in : {X : Type 0} (t : Table X) → ((n : ℕ) → get t n ≡ None) → len t ≡ 0
none_in {X = X} t none =
    ap (λ (t : Table X). len t) (same_map nat_cmp_total nat_cmp-IsAntisymmetric t (empty {X = X} {R = nat_cmp}) (λ n. none n ∙ sym (get_none n))) ∙ len-empty nat_cmp X

in_none : {X : Type 0} (t : Table X) → len t ≡ 0 → (n : ℕ) → get t n ≡ None
in_none {X = X} t none n = ap (λ (t : Table X). get t n) (empty_of_len t none) ∙ get_none n

-- what isn't there
unless : {X : Type 0} (o : Option X) → ((x : X) → o ≡ Some x → ⊥) → o ≡ None
unless None none = refl
unless (Some x) none = absurd (none x refl)

-- ---- no forward, and so no exchange

pub no_exchange : (s : State) → HasNoForward s → AllHaveForwards s → HasNoExchange s
no_exchange s none have e = unless (get s.exchanges e) (λ x is. by x.waits_for (have e x is))
  where
    by : (o : Option ℕ) → HasForward s.forwards e o → ⊥
    by None own = none_some (get s.forwards own.number) own.awaited (none own.number) own.is_open
    by (Some f) is = nothing_some (get s.forwards f) (none f) is

-- ---- where a cache agrees with what has happened

left_of : (b : Bool) (P Q : Type 0) → b ≡ true → OnTest b P Q → P
left_of true P Q is p = p
left_of false P Q is q = absurd (false_true is)

pub agreed_awaits : (s : State) (h : History) → Agrees s h → AwaitWhereLeft s
agreed_awaits s h a c k is leaves =
    let left : HasLeft k = left_of k.leaves (HasLeft k) _ leaves (a.consistent.received.connections_are c k is) in
    subst IsSome (sym left.awaits) refl

-- no connection awaits a reply
none_awaits : (s : State) (h : History) → Agrees s h → HasNoExchange s → (c : ℕ) (k : Connection) → get s.connections c ≡ Some k → k.exchange ≡ None
none_awaits s h a none c k is =
    unless k.exchange
    (λ e awaits. let its = a.consistent.linked.busy c e k is awaits in none_some (get s.exchanges e) its.exchange (none e) its.is_open)

-- and so of each more is read
pub none_leaves : (s : State) (h : History) → Agrees s h → HasNoExchange s → (c : ℕ) (k : Connection) → get s.connections c ≡ Some k → (k.exchange ≡ None) × (k.leaves ≡ false)
none_leaves s h a none c k is = (none_awaits s h a none c k is, by k.leaves refl)
  where
    by : (b : Bool) → k.leaves ≡ b → b ≡ false
    by true leaves = absurd (nothing_some k.exchange (none_awaits s h a none c k is) (agreed_awaits s h a c k is leaves))
    by false reads = refl

pub at_rest : (s : State) (h : History) → Agrees s h → AllHaveForwards s → HasNoForward s → AllHaveEnded s → IsAtRest s
at_rest s h a have none ended = (none_in s.connections (λ c. unless (get s.connections c) (no_connection c)), none_in s.forwards none)
  where
    no_connection : (c : ℕ) (k : Connection) → get s.connections c ≡ Some k → ⊥
    no_connection c k is =
        false_true (sym (none_leaves s h a (no_exchange s none have) c k is).1 ∙ (ended c (subst IsSome (sym is) refl)).is_left k is)

-- where no connection is open no exchange is
pub rest_has : (s : State) (h : History) → Agrees s h → IsAtRest s → AllHaveForwards s
rest_has s h a rest e x is =
    let on = a.consistent.linked.on_connections e x is in
    absurd (none_some (get s.connections x.connection) on.connection (in_none s.connections rest.0 x.connection) on.is_open)

-- ---- behind a run from rest

pub runs_rest : (settings : CoreSettings) (events : List Event) (results : List StepResult) (s s' : State) (h : History) (records : List Record) (opened ended : ℕ → Bool) → IsAtRest s
    → ((c : ℕ) → ended c ≡ true → is_later c s.numbers.connection ≡ false) → Runs settings s h events results records (Some s')
    → ((f : ℕ) → open_behind_all f events results (opened f) ≡ false)
    → ((c : ℕ) → IsSome (get s'.connections c) → ended_behind_all c events results (ended c) ≡ true) → IsAtRest s'
runs_rest settings events results s s' h records opened ended rest earlier runs closed told =
    let to = runs_to settings events results s h records (Some s') runs in
    let have = (runs_leave settings events results s s' h records (rest_has s h (runs_agree settings events results s h records (Some s') runs) rest) runs).have_forwards in
    at_rest s' to.later to.agrees have (λ f. unless (get s'.forwards f) (no_forward f))
    (λ c is. runs_told settings c events results s s' h records (ended c) runs (λ was. record { was_opened = earlier c was; is_left = λ k there. absurd (none_there c k there) }) (told c is))
  where
    none_there : (c : ℕ) (k : Connection) → get s.connections c ≡ Some k → ⊥
    none_there c k is = none_some (get s.connections c) k (in_none s.connections rest.0 c) is

    no_forward : (f : ℕ) (a : Awaited) → get s'.forwards f ≡ Some a → ⊥
    no_forward f a is =
        false_true (sym (closed f)
        ∙ runs_open settings f events results s s' h records (opened f) runs (λ there. absurd (nothing_some (get s.forwards f) (in_none s.forwards rest.1 f) there)) (ap is_some is))

-- ---- before all others

none_of : {X : Type 0} (o : Option X) → is_some o ≡ false → o ≡ None
none_of o none = unless o (λ x is. false_true (sym none ∙ ap is_some is))

pub new_mirrors : (options : CoreOptions) (settings : CoreSettings) (beginning : Beginning) → beginning.last ≡ None
    → Mirrors options.connections (new_state_with settings options) (Before beginning ∷ [])
new_mirrors options settings beginning none_before = record {
  connections = λ c. ap is_some (get_none c);
  forwards = λ f. ap is_some (get_none f);
  count = let none = len-empty nat_cmp Connection in omega (arith, none);
  last = sym none_before;
  fresh = λ c later. refl;
  has_room = refl;
}

pub empty_mirrors : (options : CoreOptions) (settings : CoreSettings) → Mirrors options.connections (new_state_with settings options) []
empty_mirrors options settings = record {
  connections = λ c. ap is_some (get_none c);
  forwards = λ f. ap is_some (get_none f);
  count = let none = len-empty nat_cmp Connection in omega (arith, none);
  last = refl;
  fresh = λ c later. refl;
  has_room = refl;
}

pub before_rests : (room : ℕ) (s : State) (beginning : Beginning) → Mirrors room s (Before beginning ∷ []) → IsAtRest s
before_rests room s beginning m =
    (none_in s.connections (λ c. none_of (get s.connections c) (m.connections c)), none_in s.forwards (λ f. none_of (get s.forwards f) (m.forwards f)))
