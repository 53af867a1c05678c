-- What turns leave as it is: a client that has ended, and a forward that has.
use Rattle.std.proofs.Common.{◌≡◌, ℕ, ◌≤◌, ◌<◌, Bool, true, false, cond, ◌||◌, List, [], ◌∷◌, ◌++◌, map, drop, Option, Some, None, refl, sym, ap, ◌∙◌, subst, arith, inl, inr, ⊎_elim}
use Rattle.std.specs.FinMap.{get, insert, remove}
use Rattle.std.specs.List.{AllByRecursion}
use Rattle.std.specs.Option.{IsSome}
use Rattle.std.proofs.lemmas.Bool.{cases_eq}
use Rattle.hc_service.specs.declared.event.Happening.{Happening}
use Rattle.hc_service.specs.declared.event.Happening.TheVariants.{ClientOpened, ClientBytes, ClientEnd, OriginBytes, OriginEnd, OriginFailed, Stopping as ToStop}
use Rattle.hc_service.specs.declared.action.Action.{Action}
use Rattle.hc_service.specs.declared.open.OpenExchange.{OpenExchange}
use Rattle.hc_service.specs.declared.open.Purpose.{Purpose}
use Rattle.hc_service.specs.declared.open.Purpose.TheVariants as purpose
use Rattle.hc_service.specs.declared.settings.CoreSettings.{CoreSettings}
use Rattle.hc_service.specs.Asking.{ends_connection}
use Rattle.hc_service.specs.declared.numbers.Numbers.{Numbers}
use Rattle.hc_service.specs.Numbers.{one_more, asked, sent, noted, stopping}
use Rattle.hc_service.specs.State.{State, Table, Connection, Awaited}
use Rattle.hc_service.specs.Joining.{shared, waiting_for}
use Rattle.hc_service.specs.Reactions.{Reaction}
use Rattle.hc_service.specs.Reactions.Reaction.{Replies as RepliesAtOnce, Sends, Waits}
use Rattle.hc_service.specs.Answers.{Outcome}
use Rattle.hc_service.specs.Answers.Outcome.{Replies, GoesAnew}
use Rattle.hc_service.specs.Turns.{Answers, Asks, Breaks, DoesOutcome, DoesReaction, DoesRelease, Ended, EndsBehind, EndsByFailure, EndsByResponse, Failure, KeepsAllButConnections, Releases, after_client_octets, after_leaving, after_origin_octets, after_reply, after_request, answered_now, arrived_on, asker_now, failed_now, replied, replied_to, wanted_now, whole_request}
use Rattle.hc_service.specs.Turns.Failure.{IsBroken, IsCutOff, IsLost}
use Rattle.hc_service.specs.Serves.{Turn, Takes, Run, Reads, ReadsOnAll, OwesAnswer, OwesEnd, OwesReply, Owes, clients_of}
use Rattle.hc_service.specs.Serves.Turn.{Opening, ClientSending, Asking, Refusal, Dropping, Leaving, Closing, OriginSending, Answering, Failing, Releasing, Stopping}
use Rattle.hc_service.proofs.LinkLemmas.{none_some}
use Rattle.hc_service.proofs.TableLemmas.{get_gone, get_left, get_other, was_left, was_put}

-- ---- connections

pub at_same : {X : Type 0} (t u : Table X) (n : ℕ) → u ≡ t → get u n ≡ get t n
at_same {X = X} t u n same = ap (λ (t : Table X). get t n) same

-- nothing more is read of that one, if it is there
abbrev pub EndedAt : ℕ → Table Connection → Type 0
EndedAt c ks = (k : Connection) → get ks c ≡ Some k → k.leaves ≡ true

-- each of which nothing more is read awaits a reply
abbrev pub AwaitAt : Table Connection → Type 0
AwaitAt ks = (c : ℕ) (k : Connection) → get ks c ≡ Some k → k.leaves ≡ true → IsSome k.exchange

-- so they stay
pub record LeaveOn (ks ks' : Table Connection) : Type 0 where
  pub ended : (c : ℕ) → EndedAt c ks → EndedAt c ks'
  pub await : AwaitAt ks → AwaitAt ks'

leave_then : (ks mid ks' : Table Connection) → LeaveOn ks mid → LeaveOn mid ks' → LeaveOn ks ks'
leave_then ks mid ks' one more = record { ended = λ c was. more.ended c (one.ended c was); await = λ was. more.await (one.await was) }

leave_same : (ks ks' : Table Connection) → ks' ≡ ks → LeaveOn ks ks'
leave_same ks ks' same = record {
  ended = λ c was k is. was k (sym (at_same ks ks' c same) ∙ is);
  await = λ was c k is. was c k (sym (at_same ks ks' c same) ∙ is);
}

leave_put : (ks ks' : Table Connection) (c : ℕ) (k k' : Connection) → get ks c ≡ Some k → ks' ≡ insert ks c k' → (k.leaves ≡ true → k'.leaves ≡ true)
    → ((k.leaves ≡ true → IsSome k.exchange) → k'.leaves ≡ true → IsSome k'.exchange) → LeaveOn ks ks'
leave_put ks ks' c k k' there same on awaits = record {
  ended = λ d was q is.
      ⊎_elim
      (λ (p : (c ≡ d) × (k' ≡ q)). subst (λ (q : Connection). q.leaves ≡ true) p.1 (on (was k (ap (get ks) (sym p.0) ∙ there))))
      (λ (p : (c ≡ d → ⊥) × (get ks d ≡ Some q)). was q p.1)
      (was_put ks c k' d q (sym (at_same (insert ks c k') ks' d same) ∙ is));
  await = λ was d q is leaves.
      ⊎_elim
      (λ (p : (c ≡ d) × (k' ≡ q)). subst (λ (q : Connection). IsSome q.exchange) p.1 (awaits (was c k there) (ap (λ (q : Connection). q.leaves) p.1 ∙ leaves)))
      (λ (p : (c ≡ d → ⊥) × (get ks d ≡ Some q)). was d q p.1 leaves)
      (was_put ks c k' d q (sym (at_same (insert ks c k') ks' d same) ∙ is));
}

leave_out : (ks ks' : Table Connection) (c : ℕ) → ks' ≡ remove ks c → LeaveOn ks ks'
leave_out ks ks' c same = record {
  ended = λ d was q is. was q (was_left ks c d q (sym (at_same (remove ks c) ks' d same) ∙ is)).1;
  await = λ was d q is. was d q (was_left ks c d q (sym (at_same (remove ks c) ks' d same) ∙ is)).1;
}

-- one that leaves closes behind its reply
leave_replied : (ks ks' : Table Connection) (closes : Bool) (c : ℕ) (behind : List ℕ) (k : Connection) → get ks c ≡ Some k → (k.leaves ≡ true → closes ≡ true)
    → ks' ≡ replied closes c behind k ks → LeaveOn ks ks'
leave_replied ks ks' true c behind k there closed same = leave_out ks ks' c same
leave_replied ks ks' false c behind k there closed same =
    leave_put ks ks' c k (after_reply behind k) there same (λ leaves. leaves) (λ awaits leaves. absurd (false_true (closed leaves)))
  where
    false_true : false ≡ true → ⊥
    false_true e = cc

leaves_closing : (ends leaves closing : Bool) → leaves ≡ true → (ends || (leaves || closing)) ≡ true
leaves_closing true leaves closing is = refl
leaves_closing false leaves closing is = ap (λ (b : Bool). b || closing) is

-- octets that come change neither
heard_as : (octets : List ℕ) (k : Connection) → ((after_client_octets octets k).leaves ≡ k.leaves) × ((after_client_octets octets k).exchange ≡ k.exchange)
heard_as octets k = by k.leaves k (record { unread = k.unread ++ octets; exchange = k.exchange; leaves = k.leaves }) refl refl
  where
    by : (b : Bool) (k q : Connection) → q.leaves ≡ k.leaves → q.exchange ≡ k.exchange → ((cond b k q).leaves ≡ k.leaves) × ((cond b k q).exchange ≡ k.exchange)
    by true k q leaves exchange = (refl, refl)
    by false k q leaves exchange = (leaves, exchange)

-- ---- forwards

-- what has ended isn't open again, but at the last number of 64 bits
abbrev pub StayOver : ℕ → ℕ → Table Awaited → Table Awaited → Type 0
StayOver n n' fs fs' = (f : ℕ) → f < 18446744073709551615 → f ≤ n → get fs f ≡ None → (f ≤ n') × (get fs' f ≡ None)

left_none : (t : Table Awaited) (n m : ℕ) → get t m ≡ None → get (remove t n) m ≡ None
left_none t n m none =
    ⊎_elim
    (λ (same : n ≡ m). ap (get (remove t n)) (sym same) ∙ get_gone t n)
    (λ (other : n ≡ m → ⊥). get_left t n m other ∙ none)
    (cases_eq n m)

module _ (n n' : ℕ) (fs fs' : Table Awaited) where
  over_same : n' ≡ n → fs' ≡ fs → StayOver n n' fs fs'
  over_same is same f less le none = (omega (arith, is, le), at_same fs fs' f same ∙ none)

  over_sent : (b : Awaited) → n' ≡ one_more n → fs' ≡ insert fs (one_more n) b → StayOver n n' fs fs'
  over_sent b is same f less le none = (
    omega (arith, is, less, le),
    at_same (insert fs (one_more n) b) fs' f same ∙ get_other fs (one_more n) b f (λ e. absurd (omega (arith, less, le, e))) ∙ none,
  )

  -- octets come on one that is open
  over_heard : (g : ℕ) (a b : Awaited) → get fs g ≡ Some a → n' ≡ n → fs' ≡ insert fs g b → StayOver n n' fs fs'
  over_heard g a b there is same f less le none = (
    omega (arith, is, le),
    at_same (insert fs g b) fs' f same ∙ get_other fs g b f (λ e. none_some (get fs f) a none (ap (get fs) (sym e) ∙ there)) ∙ none,
  )

  over_out : (g : ℕ) → n' ≡ n → fs' ≡ remove fs g → StayOver n n' fs fs'
  over_out g is same f less le none = (omega (arith, is, le), at_same (remove fs g) fs' f same ∙ left_none fs g f none)

  over_replaced : (g : ℕ) (b : Awaited) → n' ≡ one_more n → fs' ≡ insert (remove fs g) (one_more n) b → StayOver n n' fs fs'
  over_replaced g b is same f less le none = (
    omega (arith, is, less, le),
    at_same (insert (remove fs g) (one_more n) b) fs' f same ∙ get_other (remove fs g) (one_more n) b f (λ e. absurd (omega (arith, less, le, e))) ∙ left_none fs g f none,
  )

-- ---- turns that open no connection

pub record Passes (s s' : State) : Type 0 where
  pub last : s'.numbers.connection ≡ s.numbers.connection
  pub leave : LeaveOn s.connections s'.connections
  pub over : StayOver s.numbers.forward s'.numbers.forward s.forwards s'.forwards

passes_then : (s mid s' : State) → Passes s mid → Passes mid s' → Passes s s'
passes_then s mid s' one more = record {
  last = more.last ∙ one.last;
  leave = leave_then s.connections mid.connections s'.connections one.leave more.leave;
  over = λ f less le none. let then = one.over f less le none in more.over f less then.0 then.1;
}

module _ (s s' : State) (m : Numbers) (numbers : s'.numbers ≡ m) (last : m.connection ≡ s.numbers.connection) (leave : LeaveOn s.connections s'.connections) where
  passes_by : StayOver s.numbers.forward s'.numbers.forward s.forwards s'.forwards → Passes s s'
  passes_by over = record { last = ap (λ (n : Numbers). n.connection) numbers ∙ last; leave = leave; over = over }

  number_is : (k : ℕ) → m.forward ≡ k → s'.numbers.forward ≡ k
  number_is k is = ap (λ (n : Numbers). n.forward) numbers ∙ is

  -- no forward is sent, nor ends
  passes_same : m.forward ≡ s.numbers.forward → s'.forwards ≡ s.forwards → Passes s s'
  passes_same is same = passes_by (over_same s.numbers.forward s'.numbers.forward s.forwards s'.forwards (number_is s.numbers.forward is) same)

  passes_sent : (b : Awaited) → m.forward ≡ one_more s.numbers.forward → s'.forwards ≡ insert s.forwards (one_more s.numbers.forward) b → Passes s s'
  passes_sent b is same = passes_by (over_sent s.numbers.forward s'.numbers.forward s.forwards s'.forwards b (number_is (one_more s.numbers.forward) is) same)

  passes_heard : (g : ℕ) (a b : Awaited) → get s.forwards g ≡ Some a → m.forward ≡ s.numbers.forward → s'.forwards ≡ insert s.forwards g b → Passes s s'
  passes_heard g a b there is same = passes_by (over_heard s.numbers.forward s'.numbers.forward s.forwards s'.forwards g a b there (number_is s.numbers.forward is) same)

-- one that changes connections alone
alone_passes : (s s' : State) → LeaveOn s.connections s'.connections → KeepsAllButConnections s s' → Passes s s'
alone_passes s s' leave keeps = passes_same s s' s.numbers keeps.numbers refl leave refl keeps.forwards

asking_passes : (settings : CoreSettings) (c : ℕ) (s : State) (actions : List Action) (s' : State) → Asks settings c s actions s' → Passes s s'
asking_passes settings c s actions s' t = by_reaction t.reaction t.does
  where
    at_once : s'.connections ≡ replied (wanted_now settings s t.request.head t.connection).closes c (drop t.size t.connection.unread) t.connection s.connections
        → LeaveOn s.connections s'.connections
    at_once same =
        leave_replied s.connections s'.connections (wanted_now settings s t.request.head t.connection).closes c (drop t.size t.connection.unread) t.connection t.is_open
        (leaves_closing (ends_connection t.request.head) t.connection.leaves s.numbers.closing) same

    awaiting : s'.connections ≡ insert s.connections c (after_request (one_more s.numbers.exchange) (drop t.size t.connection.unread) t.connection)
        → LeaveOn s.connections s'.connections
    awaiting same =
        leave_put s.connections s'.connections c t.connection (after_request (one_more s.numbers.exchange) (drop t.size t.connection.unread) t.connection) t.is_open same
        (λ leaves. leaves) (λ awaits leaves. refl)

    by_reaction : (r : Reaction) → DoesReaction r (arrived_on c t.connection t.size (whole_request settings s t.request t.target t.connection)) s actions s' → Passes s s'
    by_reaction (RepliesAtOnce reply None) d = passes_same s s' (noted (asked s.numbers)) d.numbers refl (at_once d.connections) refl d.keeps.forwards
    by_reaction (RepliesAtOnce reply (Some validation)) d = passes_sent s s' (sent (noted (asked s.numbers))) d.numbers refl (at_once d.connections) _ refl d.forwards
    by_reaction (Sends forward why kind) d = passes_sent s s' (sent (asked s.numbers)) d.numbers refl (awaiting d.connections) _ refl d.forwards
    by_reaction (Waits f) d = passes_same s s' (asked s.numbers) d.numbers refl (awaiting d.connections) refl d.forwards

-- the reply goes to the connection of the exchange
answered_leaves : (settings : CoreSettings) (s : State) (x : OpenExchange) (k : Connection) (s' : State) → get s.connections x.connection ≡ Some k
    → s'.connections ≡ replied_to (asker_now settings s x k) s.connections → LeaveOn s.connections s'.connections
answered_leaves settings s x k s' there same =
    leave_replied s.connections s'.connections (wanted_now settings s x.request k).closes x.connection k.unread k there
    (leaves_closing (ends_connection x.request) k.leaves s.numbers.closing) same

-- ---- a forward ends

-- where a turn ends one, it is over behind that
pub record Ends (f : ℕ) (s s' : State) : Type 0 where
  pub passes : Passes s s'
  pub over : f < 18446744073709551615 → f ≤ s.numbers.forward → (f ≤ s'.numbers.forward) × (get s'.forwards f ≡ None)

module _ (f : ℕ) (s s' : State) (m : Numbers) (numbers : s'.numbers ≡ m) (last : m.connection ≡ s.numbers.connection) (leave : LeaveOn s.connections s'.connections) where
  ends_out : m.forward ≡ s.numbers.forward → s'.forwards ≡ remove s.forwards f → Ends f s s'
  ends_out is same =
      let number = number_is s s' m numbers last leave s.numbers.forward is in record {
        passes = passes_by s s' m numbers last leave (over_out s.numbers.forward s'.numbers.forward s.forwards s'.forwards f number same);
        over = λ less le. (omega (arith, number, le), at_same (remove s.forwards f) s'.forwards f same ∙ get_gone s.forwards f);
      }

  -- another one is sent in its place
  ends_replaced : (b : Awaited) → m.forward ≡ one_more s.numbers.forward → s'.forwards ≡ insert (remove s.forwards f) (one_more s.numbers.forward) b → Ends f s s'
  ends_replaced b is same =
      let number = number_is s s' m numbers last leave (one_more s.numbers.forward) is in record {
        passes = passes_by s s' m numbers last leave (over_replaced s.numbers.forward s'.numbers.forward s.forwards s'.forwards f b number same);
        over = λ less le. (
          omega (arith, number, less, le),
          at_same (insert (remove s.forwards f) (one_more s.numbers.forward) b) s'.forwards f same
              ∙ get_other (remove s.forwards f) (one_more s.numbers.forward) b f (λ e. absurd (omega (arith, less, le, e))) ∙ get_gone s.forwards f,
        );
      }

behind_ends : (f : ℕ) (first : List Action) (s : State) (actions : List Action) (s' : State) → EndsBehind f first s actions s' → Ends f s s'
behind_ends f first s actions s' d =
    ends_out f s s' (noted s.numbers) d.numbers refl (leave_same s.connections s'.connections d.keeps.connections) refl d.forwards

outcome_ends : (settings : CoreSettings) (ended : Ended) (x : OpenExchange) (k : Connection) (o : Outcome) (s : State) (actions : List Action) (s' : State)
    → get s.connections x.connection ≡ Some k → DoesOutcome o ended (asker_now settings s x k) s actions s' → Ends ended.forward s s'
outcome_ends settings ended x k (Replies reply) s actions s' there d =
    ends_out ended.forward s s' (noted (noted s.numbers)) d.numbers refl (answered_leaves settings s x k s' there d.connections) refl d.forwards
outcome_ends settings ended x k GoesAnew s actions s' there d =
    ends_replaced ended.forward s s' (sent (noted s.numbers)) d.numbers refl (leave_same s.connections s'.connections d.keeps.connections) _ refl d.forwards

pub answering_ends : (settings : CoreSettings) (f : ℕ) (ended : Bool) (s : State) (actions : List Action) (s' : State) → Answers settings f ended s actions s' → Ends f s s'
answering_ends settings f ended s actions s' t = by_purpose t.awaited.forward.purpose t.ends
  where
    by_purpose : (p : Purpose) → EndsByResponse p settings (answered_now f t.awaited.forward t.response t.renewed s) s actions s' → Ends f s s'
    by_purpose purpose.Background d = behind_ends f (answered_now f t.awaited.forward t.response t.renewed s).first s actions s' d.1
    by_purpose (purpose.Reply e why kind) d =
        outcome_ends settings (record { forward = f; exchange = e; why = why; first = (answered_now f t.awaited.forward t.response t.renewed s).first })
        d.exchange d.connection d.outcome s actions s' d.is_open d.does

pub failing_ends : (settings : CoreSettings) (f : ℕ) (how : Failure) (s : State) (actions : List Action) (s' : State) → Breaks settings f how s actions s' → Ends f s s'
failing_ends settings f how s actions s' t = by_purpose t.awaited.forward.purpose t.ends
  where
    by_purpose : (p : Purpose) → EndsByFailure p settings (failed_now f t.awaited.forward.target how s) s actions s' → Ends f s s'
    by_purpose purpose.Background d = behind_ends f (failed_now f t.awaited.forward.target how s).first s actions s' d.1
    by_purpose (purpose.Reply e why kind) d =
        outcome_ends settings (record { forward = f; exchange = e; why = why; first = (failed_now f t.awaited.forward.target how s).first })
        d.exchange d.connection d.outcome s actions s' d.is_open d.does

releasing_passes : (settings : CoreSettings) (e : ℕ) (s : State) (actions : List Action) (s' : State) → Releases settings e s actions s' → Passes s s'
releasing_passes settings e s actions s' t = by_choice (shared s.numbers.moment t.chosen) t.does
  where
    by_choice : (o : _) → DoesRelease o e (asker_now settings s t.exchange t.connection) s actions s' → Passes s s'
    by_choice (Some stored) d = passes_same s s' (noted s.numbers) d.numbers refl (answered_leaves settings s t.exchange t.connection s' t.is_open d.connections) refl d.forwards
    by_choice None d = passes_sent s s' (sent s.numbers) d.numbers refl (leave_same s.connections s'.connections d.connections) _ refl d.forwards

-- ---- turns, one after another

-- it opens no connection
abbrev pub IsPlain : Turn → Type 0
IsPlain (Opening c) = ⊥
IsPlain turn = Unit {0}

turn_passes : (settings : CoreSettings) (turn : Turn) (s : State) (actions : List Action) (s' : State) → IsPlain turn → Takes settings turn s actions s' → Passes s s'
turn_passes settings (Opening c) s actions s' is t = absurd is
turn_passes settings (ClientSending c octets) s actions s' is t =
    let same = heard_as octets t.connection in
    alone_passes s s'
    (leave_put s.connections s'.connections c t.connection (after_client_octets octets t.connection) t.is_open t.connections (λ leaves. same.0 ∙ leaves)
    (λ awaits leaves. subst IsSome (sym same.1) (awaits (sym same.0 ∙ leaves)))) t.keeps
turn_passes settings (Asking c) s actions s' is t = asking_passes settings c s actions s' t
turn_passes settings (Refusal c status) s actions s' is t = alone_passes s s' (leave_out s.connections s'.connections c t.connections) t.keeps
turn_passes settings (Dropping c) s actions s' is t =
    alone_passes s s'
    (leave_put s.connections s'.connections c t.connection (after_leaving t.connection) t.is_open t.connections (λ leaves. refl)
    (λ awaits leaves. subst IsSome (sym t.awaits) refl)) t.keeps
turn_passes settings (Leaving c) s actions s' is t =
    alone_passes s s'
    (leave_put s.connections s'.connections c t.connection (after_leaving t.connection) t.is_open t.connections (λ leaves. refl)
    (λ awaits leaves. subst IsSome (sym t.awaits) refl)) t.keeps
turn_passes settings (Closing c) s actions s' is t = alone_passes s s' (leave_out s.connections s'.connections c t.connections) t.keeps
turn_passes settings (OriginSending f octets) s actions s' is t =
    passes_heard s s' s.numbers t.keeps.numbers refl (leave_same s.connections s'.connections t.keeps.connections) f t.awaited (after_origin_octets octets t.awaited) t.is_open refl t.forwards
turn_passes settings (Answering f ended) s actions s' is t = (answering_ends settings f ended s actions s' t).passes
turn_passes settings (Failing f how) s actions s' is t = (failing_ends settings f how s actions s' t).passes
turn_passes settings (Releasing e) s actions s' is t = releasing_passes settings e s actions s' t
turn_passes settings Stopping s actions s' is t =
    passes_same s s' (stopping s.numbers) t.numbers refl (leave_same s.connections s'.connections t.keeps.connections) refl t.keeps.forwards

passes_nowhere : (s s' : State) → s' ≡ s → Passes s s'
passes_nowhere s s' same =
    subst (Passes s) (sym same)
    (record { last = refl; leave = leave_same s.connections s.connections refl; over = λ f less le none. (le, none) })

pub run_passes : (settings : CoreSettings) (turns : List Turn) (s : State) (actions : List Action) (s' : State) → AllByRecursion IsPlain turns → Run settings turns s actions s' → Passes s s'
run_passes settings [] s actions s' are r = passes_nowhere s s' r.1
run_passes settings (turn ∷ turns) s actions s' are r =
    passes_then s r.0 s' (turn_passes settings turn s r.1 r.0 are.0 r.3) (run_passes settings turns r.0 r.2 s' are.1 r.5)

-- ---- the turns that an event owes

plain_reading : (c : ℕ) (turn : Turn) → Reads c turn → IsPlain turn
plain_reading c (Asking d) is = tt
plain_reading c (Refusal d status) is = tt
plain_reading c (Dropping d) is = tt
plain_reading c (Opening d) is = absurd is
plain_reading c (ClientSending d octets) is = tt
plain_reading c (Leaving d) is = tt
plain_reading c (Closing d) is = tt
plain_reading c (OriginSending f octets) is = tt
plain_reading c (Answering f ended) is = tt
plain_reading c (Failing f how) is = tt
plain_reading c (Releasing e) is = tt
plain_reading c Stopping is = tt

plain_readings : (c : ℕ) (turns : List Turn) → AllByRecursion (Reads c) turns → AllByRecursion IsPlain turns
plain_readings c [] are = tt
plain_readings c (turn ∷ turns) are = (plain_reading c turn are.0, plain_readings c turns are.1)

plain_then : (turns more : List Turn) → AllByRecursion IsPlain turns → AllByRecursion IsPlain more → AllByRecursion IsPlain (turns ++ more)
plain_then [] more are others = others
plain_then (turn ∷ turns) more are others = (are.0, plain_then turns more are.1 others)

plain_all : (clients : List ℕ) (turns : List Turn) (s' : State) → ReadsOnAll clients turns s' → AllByRecursion IsPlain turns
plain_all [] turns s' is = subst (AllByRecursion IsPlain) (sym is) tt
plain_all (c ∷ clients) turns s' is =
    subst (AllByRecursion IsPlain) (sym is.2) (plain_then is.0 is.1 (plain_readings c is.0 is.3.0) (plain_all clients is.1 s' is.4))

plain_releases : (numbers : List ℕ) → AllByRecursion IsPlain (map Releasing numbers)
plain_releases [] = tt
plain_releases (e ∷ numbers) = (tt, plain_releases numbers)

-- behind the turn that ends a forward
pub plain_behind : (numbers clients : List ℕ) (readings : List Turn) (s' : State) → ReadsOnAll clients readings s' → AllByRecursion IsPlain (map Releasing numbers ++ readings)
plain_behind numbers clients readings s' is = plain_then (map Releasing numbers) readings (plain_releases numbers) (plain_all clients readings s' is)

plain_reply : (f : ℕ) (turn : Turn) (turns : List Turn) (s s' : State) → IsPlain turn → OwesReply f turn turns s s' → AllByRecursion IsPlain turns
plain_reply f turn turns s s' is owes =
    subst (AllByRecursion IsPlain) (sym owes.1) (is, plain_behind (waiting_for f s.exchanges) (clients_of f s) owes.0 s' owes.2)

plain_end : (c : ℕ) (leaves : Bool) (exchange : Option ℕ) (turns : List Turn) → OwesEnd c leaves exchange turns → AllByRecursion IsPlain turns
plain_end c true exchange turns is = subst (AllByRecursion IsPlain) (sym is) tt
plain_end c false (Some e) turns is = subst (AllByRecursion IsPlain) (sym is) (tt, tt)
plain_end c false None turns (inl is) = subst (AllByRecursion IsPlain) (sym is) (tt, tt)
plain_end c false None turns (inr is) = subst (AllByRecursion IsPlain) (sym is.1) (tt, tt)

plain_answer : (f : ℕ) (turns : List Turn) (s s' : State) → OwesAnswer f turns s s' → AllByRecursion IsPlain turns
plain_answer f turns s s' (inl is) = subst (AllByRecursion IsPlain) (sym is.0) tt
plain_answer f turns s s' (inr (inl is)) = plain_reply f (Answering f false) turns s s' tt is
plain_answer f turns s s' (inr (inr is)) = plain_reply f (Failing f IsBroken) turns s s' tt is

-- an event that opens no connection owes none that does
pub plain_owed : (happening : Happening) (turns : List Turn) (s s' : State) → ((c : ℕ) → happening ≡ ClientOpened c → ⊥) → Owes happening turns s s' → AllByRecursion IsPlain turns
plain_owed (ClientOpened c) turns s s' other owes = absurd (other c refl)
plain_owed (ClientBytes c octets) turns s s' other owes = subst (AllByRecursion IsPlain) (sym owes.1) (tt, plain_readings c owes.0 owes.2.0)
plain_owed (ClientEnd c) turns s s' other owes = plain_end c owes.0.leaves owes.0.exchange turns owes.2
plain_owed (OriginBytes f octets) turns s s' other owes = subst (AllByRecursion IsPlain) (sym owes.1) (tt, plain_answer f owes.0 s s' owes.2)
plain_owed (OriginEnd f) turns s s' other (inl owes) = plain_reply f (Answering f true) turns s s' tt owes
plain_owed (OriginEnd f) turns s s' other (inr owes) = plain_reply f (Failing f IsCutOff) turns s s' tt owes
plain_owed (OriginFailed f) turns s s' other owes = plain_reply f (Failing f IsLost) turns s s' tt owes
plain_owed ToStop turns s s' other owes = subst (AllByRecursion IsPlain) (sym owes) (tt, tt)
