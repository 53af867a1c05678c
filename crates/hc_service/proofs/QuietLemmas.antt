-- What turns leave as it is: the connections and the forwards that they aren't about.
use Rattle.std.proofs.Common.{◌≡◌, ℕ, ◌≤◌, ◌<◌, Bool, true, false, List, [], ◌∷◌, ◌++◌, map, drop, Option, Some, None, refl, sym, ap, ◌∙◌, subst, arith, inl, inr, ⊎_elim, option_map, option_and_then, ◌⊎◌}
use Rattle.std.specs.FinMap.{get, insert, remove}
use Rattle.std.specs.List.{AllByRecursion}
use Rattle.std.proofs.lemmas.Bool.{cases_eq}
use Rattle.hc_head.specs.Methods.{is_head}
use Rattle.hc_framing.specs.FramingLaws.{request_laws, response_laws}
use Rattle.hc_incoming.specs.Requests.{IsUnfinished}
use Rattle.hc_incoming.specs.Responses.{IsUnfinished as IsAwaitedStill}
use Rattle.hc_service.specs.declared.action.Action.{Action}
use Rattle.hc_service.specs.declared.cases.Cause.{Cause}
use Rattle.hc_service.specs.declared.cases.Cause.TheVariants.{UriMiss}
use Rattle.hc_service.specs.declared.open.ForwardKind.{ForwardKind}
use Rattle.hc_service.specs.declared.open.ForwardKind.TheVariants.{Joinable, Plain}
use Rattle.hc_service.specs.declared.open.OpenExchange.{OpenExchange}
use Rattle.hc_service.specs.declared.open.Purpose.{Purpose}
use Rattle.hc_service.specs.declared.open.Purpose.TheVariants as purpose
use Rattle.hc_service.specs.declared.settings.CoreSettings.{CoreSettings}
use Rattle.hc_service.specs.Numbers.{one_more}
use Rattle.hc_service.specs.State.{State, Table, Connection, Awaited, exchange_for}
use Rattle.hc_service.specs.Joining.{shared, waiting_for}
use Rattle.hc_update.specs.declared.stored.Stored.{Stored}
use Rattle.hc_service.specs.Sending.{failure_actions}
use Rattle.hc_service.specs.Reactions.{Reaction, forward_alone, forward_anew}
use Rattle.hc_service.specs.Reactions.Reaction.{Replies as RepliesAtOnce, Sends, Waits}
use Rattle.hc_service.specs.Answers.{Outcome}
use Rattle.hc_service.specs.Answers.Outcome.{Replies, GoesAnew}
use Rattle.hc_service.specs.Turns.{after_leaving, after_reply, after_request, sent_forward, replied, wanted_now, Asks, Asker, Ended, DoesReaction, DoesRelease, Releases, released, EndsBehind, Answers, Breaks, DoesOutcome, EndsByResponse, EndsByFailure, Failure, answered_now, arrived_on, asker_now, failed_now, is_closed, whole_request}
use Rattle.hc_service.specs.Serves.{Turn, Takes, Run, Reads, ReadsOnAll, answered_by, clients_of, connections_of, listed, IsQuietAt, AwaitsStill}
use Rattle.hc_service.specs.Serves.Turn.{Opening, ClientSending, Asking, Refusal, Dropping, Leaving, Closing, OriginSending, Answering, Failing, Releasing, Stopping}
use Rattle.hc_service.specs.Agreement.{IsQuiet, IsAwaiting}
use Rattle.hc_service.proofs.TableLemmas.{get_other, get_left, was_put, was_left}

-- ---- where nothing has come

nothing_within : (n : ℕ) → n ≤ 0 → 0 < n → ⊥
nothing_within n le some = absurd (omega arith)

pub nothing_read : IsUnfinished []
nothing_read = record {
  in_time = inl ((λ head len fits begins. nothing_within len (request_laws.within [] head len begins) (request_laws.some [] head len begins)), inl refl);
  passes = λ head has. absurd (nothing_within has.len (request_laws.within [] has.head has.len has.begins.begins) (request_laws.some [] has.head has.len has.begins.begins));
}

pub nothing_answered : (to_head : Bool) → IsAwaitedStill to_head []
nothing_answered to_head = record {
  count = 0;
  rest = [];
  leaves = record { are = refl; few = omega arith };
  in_time = inl ((λ head len fits begins. nothing_within len (response_laws.within [] head len begins) (response_laws.some [] head len begins)), inl refl);
}

-- ---- what stays

-- it is one of them
abbrev pub IsAmong : ℕ → List ℕ → Type 0
IsAmong n [] = ⊥
IsAmong n (m ∷ others) = (m ≡ n) ⊎ IsAmong n others

-- no other connection changes
abbrev pub KeepsOthers : List ℕ → State → State → Type 0
KeepsOthers clients s s' = (d : ℕ) → (IsAmong d clients → ⊥) → get s'.connections d ≡ get s.connections d

-- a forward that is open is new, or was open before
abbrev pub KeepsForwards : State → State → Type 0
KeepsForwards s s' = (g : ℕ) (a : Awaited) → get s'.forwards g ≡ Some a → (a.received ≡ []) ⊎ (get s.forwards g ≡ Some a)

-- it is new, or another that was open before
abbrev pub EndsForward : ℕ → State → State → Type 0
EndsForward f s s' = (g : ℕ) (a : Awaited) → get s'.forwards g ≡ Some a → (a.received ≡ []) ⊎ ((f ≡ g → ⊥) × (get s.forwards g ≡ Some a))

same_entries : {X : Type 0} (t u : Table X) (d : ℕ) → u ≡ t → get u d ≡ get t d
same_entries {X = X} t u d same = ap (λ (t : Table X). get t d) same

pub others_same : (clients : List ℕ) (s s' : State) → s'.connections ≡ s.connections → KeepsOthers clients s s'
others_same clients s s' same d other = same_entries s.connections s'.connections d same

pub others_put : (c : ℕ) (k : Connection) (s s' : State) → s'.connections ≡ insert s.connections c k → KeepsOthers (c ∷ []) s s'
others_put c k s s' same d other = same_entries (insert s.connections c k) s'.connections d same ∙ get_other s.connections c k d (λ e. other (inl e))

pub others_out : (c : ℕ) (s s' : State) → s'.connections ≡ remove s.connections c → KeepsOthers (c ∷ []) s s'
others_out c s s' same d other = same_entries (remove s.connections c) s'.connections d same ∙ get_left s.connections c d (λ e. other (inl e))

pub others_replied : (closes : Bool) (c : ℕ) (behind : List ℕ) (k : Connection) (s s' : State) → s'.connections ≡ replied closes c behind k s.connections → KeepsOthers (c ∷ []) s s'
others_replied true c behind k s s' same = others_out c s s' same
others_replied false c behind k s s' same = others_put c (after_reply behind k) s s' same

pub others_then : (clients : List ℕ) (s mid s' : State) → KeepsOthers clients s mid → KeepsOthers clients mid s' → KeepsOthers clients s s'
others_then clients s mid s' one more d other = more d other ∙ one d other

-- the same of more connections
pub others_more : (clients more : List ℕ) (s s' : State) → ((d : ℕ) → IsAmong d clients → IsAmong d more) → KeepsOthers clients s s' → KeepsOthers more s s'
others_more clients more s s' among keeps d other = keeps d (λ is. other (among d is))

pub others_one : (c : ℕ) (more : List ℕ) (s s' : State) → IsAmong c more → KeepsOthers (c ∷ []) s s' → KeepsOthers more s s'
others_one c more s s' among keeps d other =
    keeps d (λ is. ⊎_elim (λ (same : c ≡ d). other (subst (λ (n : ℕ). IsAmong n more) same among)) (λ (none : ⊥). none) is)

pub forwards_same : (s s' : State) → s'.forwards ≡ s.forwards → KeepsForwards s s'
forwards_same s s' same g a is = inr (sym (same_entries s.forwards s'.forwards g same) ∙ is)

forwards_sent : (f : ℕ) (b : Awaited) (s s' : State) → s'.forwards ≡ insert s.forwards f b → b.received ≡ [] → KeepsForwards s s'
forwards_sent f b s s' same none g a is =
    ⊎_elim
    (λ (p : (f ≡ g) × (b ≡ a)). inl (sym (ap (λ (z : Awaited). z.received) p.1) ∙ none))
    (λ (p : (f ≡ g → ⊥) × (get s.forwards g ≡ Some a)). inr p.1)
    (was_put s.forwards f b g a (sym (same_entries (insert s.forwards f b) s'.forwards g same) ∙ is))

forwards_then : (s mid s' : State) → KeepsForwards s mid → KeepsForwards mid s' → KeepsForwards s s'
forwards_then s mid s' one more g a is =
    ⊎_elim
    (λ (new : a.received ≡ []). inl new)
    (λ (before : get mid.forwards g ≡ Some a). one g a before)
    (more g a is)

ended_out : (f : ℕ) (s s' : State) → s'.forwards ≡ remove s.forwards f → EndsForward f s s'
ended_out f s s' same g a is = inr (was_left s.forwards f g a (sym (same_entries (remove s.forwards f) s'.forwards g same) ∙ is))

ended_sent : (f n : ℕ) (b : Awaited) (s s' : State) → s'.forwards ≡ insert (remove s.forwards f) n b → b.received ≡ [] → EndsForward f s s'
ended_sent f n b s s' same none g a is =
    ⊎_elim
    (λ (p : (n ≡ g) × (b ≡ a)). inl (sym (ap (λ (z : Awaited). z.received) p.1) ∙ none))
    (λ (p : (n ≡ g → ⊥) × (get (remove s.forwards f) g ≡ Some a)). inr (was_left s.forwards f g a p.1))
    (was_put (remove s.forwards f) n b g a (sym (same_entries (insert (remove s.forwards f) n b) s'.forwards g same) ∙ is))

pub ended_then : (f : ℕ) (s mid s' : State) → EndsForward f s mid → KeepsForwards mid s' → EndsForward f s s'
ended_then f s mid s' one more g a is =
    ⊎_elim
    (λ (new : a.received ≡ []). inl new)
    (λ (before : get mid.forwards g ≡ Some a). one g a before)
    (more g a is)

-- ---- reading a connection

-- what is kept by whatever reads connections
abbrev pub KeepsRest : List ℕ → State → State → Type 0
KeepsRest clients s s' = KeepsOthers clients s s' × KeepsForwards s s'

asking_keeps : (settings : CoreSettings) (c : ℕ) (s : State) (actions : List Action) (s' : State) → Asks settings c s actions s' → KeepsRest (c ∷ []) s s'
asking_keeps settings c s actions s' t = by_reaction t.reaction t.does
  where
    by_reaction : (r : Reaction) → DoesReaction r (arrived_on c t.connection t.size (whole_request settings s t.request t.target t.connection)) s actions s' → KeepsRest (c ∷ []) s s'
    by_reaction (RepliesAtOnce reply None) d =
        (others_replied (wanted_now settings s t.request.head t.connection).closes c (drop t.size t.connection.unread) t.connection s s' d.connections, forwards_same s s' d.keeps.forwards)
    by_reaction (RepliesAtOnce reply (Some validation)) d = (
      others_replied (wanted_now settings s t.request.head t.connection).closes c (drop t.size t.connection.unread) t.connection s s' d.connections,
      forwards_sent (one_more s.numbers.forward) (sent_forward validation.head t.target s.numbers.moment purpose.Background) s s' d.forwards refl,
    )
    by_reaction (Sends forward why kind) d = (
      others_put c (after_request (one_more s.numbers.exchange) (drop t.size t.connection.unread) t.connection) s s' d.connections,
      forwards_sent (one_more s.numbers.forward) (sent_forward forward.head t.target s.numbers.moment (purpose.Reply (one_more s.numbers.exchange) why kind)) s s' d.forwards refl,
    )
    by_reaction (Waits f) d =
        (others_put c (after_request (one_more s.numbers.exchange) (drop t.size t.connection.unread) t.connection) s s' d.connections, forwards_same s s' d.forwards)

reading_keeps : (settings : CoreSettings) (c : ℕ) (turn : Turn) (s : State) (actions : List Action) (s' : State) → Reads c turn → Takes settings turn s actions s' → KeepsRest (c ∷ []) s s'
reading_keeps settings c (Opening d) s actions s' is t = absurd is
reading_keeps settings c (ClientSending d octets) s actions s' is t = absurd is
reading_keeps settings c (Asking d) s actions s' is t = subst (λ (n : ℕ). KeepsRest (n ∷ []) s s') is (asking_keeps settings d s actions s' t)
reading_keeps settings c (Refusal d status) s actions s' is t =
    subst (λ (n : ℕ). KeepsRest (n ∷ []) s s') is (others_out d s s' t.connections, forwards_same s s' t.keeps.forwards)
reading_keeps settings c (Dropping d) s actions s' is t =
    subst (λ (n : ℕ). KeepsRest (n ∷ []) s s') is (others_put d (after_leaving t.connection) s s' t.connections, forwards_same s s' t.keeps.forwards)
reading_keeps settings c (Leaving d) s actions s' is t = absurd is
reading_keeps settings c (Closing d) s actions s' is t = absurd is
reading_keeps settings c (OriginSending f octets) s actions s' is t = absurd is
reading_keeps settings c (Answering f ended) s actions s' is t = absurd is
reading_keeps settings c (Failing f how) s actions s' is t = absurd is
reading_keeps settings c (Releasing e) s actions s' is t = absurd is
reading_keeps settings c Stopping s actions s' is t = absurd is

same_state : (clients : List ℕ) (s s' : State) → s' ≡ s → KeepsRest clients s s'
same_state clients s s' same = (others_same clients s s' (ap (λ (s : State). s.connections) same), forwards_same s s' (ap (λ (s : State). s.forwards) same))

rest_then : (clients : List ℕ) (s mid s' : State) → KeepsRest clients s mid → KeepsRest clients mid s' → KeepsRest clients s s'
rest_then clients s mid s' one more = (others_then clients s mid s' one.0 more.0, forwards_then s mid s' one.1 more.1)

pub readings_keep : (settings : CoreSettings) (c : ℕ) (turns : List Turn) (s : State) (actions : List Action) (s' : State) → AllByRecursion (Reads c) turns → Run settings turns s actions s' → KeepsRest (c ∷ []) s s'
readings_keep settings c [] s actions s' reads r = same_state (c ∷ []) s s' r.1
readings_keep settings c (turn ∷ turns) s actions s' reads r =
    rest_then (c ∷ []) s r.0 s' (reading_keeps settings c turn s r.1 r.0 reads.0 r.3) (readings_keep settings c turns r.0 r.2 s' reads.1 r.5)

-- turns behind others
pub run_split : (settings : CoreSettings) (turns more : List Turn) (s : State) (actions : List Action) (s' : State) → Run settings (turns ++ more) s actions s'
    → (mid : State) × (first : List Action) × (rest : List Action) × Run settings turns s first mid × Run settings more mid rest s'
run_split settings [] more s actions s' r = (s, [], actions, (refl, refl), r)
run_split settings (turn ∷ turns) more s actions s' r =
    let others = run_split settings turns more r.0 r.2 s' r.5 in
    (others.0, r.1 ++ others.1, others.2, (r.0, r.1, others.1, r.3, refl, others.3), others.4)

-- connections are read, one after another
pub clients_keep : (settings : CoreSettings) (clients : List ℕ) (turns : List Turn) (s : State) (actions : List Action) (s' : State) → ReadsOnAll clients turns s' → Run settings turns s actions s'
    → KeepsRest clients s s'
clients_keep settings [] turns s actions s' reads r = same_state [] s s' (subst (λ (turns : List Turn). Run settings turns s actions s') reads r).1
clients_keep settings (c ∷ clients) turns s actions s' reads r =
    let parts = run_split settings reads.0 reads.1 s actions s' (subst (λ (turns : List Turn). Run settings turns s actions s') reads.2 r) in
    let one = readings_keep settings c reads.0 s parts.1 parts.0 reads.3.0 parts.3 in
    let more = clients_keep settings clients reads.1 parts.0 parts.2 s' reads.4 parts.4 in
    rest_then (c ∷ clients) s parts.0 s'
    (others_one c (c ∷ clients) s parts.0 (inl refl) one.0, one.1)
    (others_more clients (c ∷ clients) parts.0 s' (λ d is. inr is) more.0, more.1)

pub read_quietly : (clients : List ℕ) (turns : List Turn) (s' : State) → ReadsOnAll clients turns s' → (c : ℕ) → IsAmong c clients → IsQuietAt c s'
read_quietly [] turns s' reads c is = absurd is
read_quietly (d ∷ clients) turns s' reads c (inl same) = subst (λ (n : ℕ). IsQuietAt n s') same reads.3.1
read_quietly (d ∷ clients) turns s' reads c (inr among) = read_quietly clients reads.1 s' reads.4 c among

-- ---- whom the end of a forward answers

among_behind : (n : ℕ) (first more : List ℕ) → IsAmong n more → IsAmong n (first ++ more)
among_behind n [] more is = is
among_behind n (m ∷ first) more is = inr (among_behind n first more is)

among_before : (n : ℕ) (first more : List ℕ) → IsAmong n first → IsAmong n (first ++ more)
among_before n [] more is = absurd is
among_before n (m ∷ first) more (inl same) = inl same
among_before n (m ∷ first) more (inr is) = inr (among_before n first more is)

-- the connection of one of some exchanges is one of theirs
among_connections : (xs : Table OpenExchange) (numbers : List ℕ) (e : ℕ) (x : OpenExchange) → IsAmong e numbers → get xs e ≡ Some x → IsAmong x.connection (connections_of xs numbers)
among_connections xs [] e x is there = absurd is
among_connections xs (d ∷ numbers) e x (inl same) there =
    among_before x.connection (listed (option_map (λ (y : OpenExchange). y.connection) (get xs d))) (connections_of xs numbers)
    (subst (λ (o : Option OpenExchange). IsAmong x.connection (listed (option_map (λ (y : OpenExchange). y.connection) o))) (sym (ap (get xs) same ∙ there)) (inl refl))
among_connections xs (d ∷ numbers) e x (inr is) there =
    among_behind x.connection (listed (option_map (λ (y : OpenExchange). y.connection) (get xs d))) (connections_of xs numbers) (among_connections xs numbers e x is there)

answered_is : (f : ℕ) (s : State) (a : Awaited) → get s.forwards f ≡ Some a → answered_by f s ≡ listed (exchange_for a.forward.purpose) ++ waiting_for f s.exchanges
answered_is f s a is = ap (λ (o : Option Awaited). listed (option_and_then (λ (awaited : Awaited). exchange_for awaited.forward.purpose) o) ++ waiting_for f s.exchanges) is

-- the exchange that it is for is one of them, and so are those that wait for it
its_among : (f e : ℕ) (why : Cause) (kind : ForwardKind) (s : State) (a : Awaited) → get s.forwards f ≡ Some a → a.forward.purpose ≡ purpose.Reply e why kind → IsAmong e (answered_by f s)
its_among f e why kind s a is for_it =
    subst (IsAmong e) (sym (answered_is f s a is ∙ ap (λ (p : Purpose). listed (exchange_for p) ++ waiting_for f s.exchanges) for_it)) (inl refl)

pub waiting_among : (f e : ℕ) (s : State) → IsAmong e (waiting_for f s.exchanges) → IsAmong e (answered_by f s)
waiting_among f e s is = among_behind e (listed (option_and_then (λ (awaited : Awaited). exchange_for awaited.forward.purpose) (get s.forwards f))) (waiting_for f s.exchanges) is

-- ---- ending a forward

-- each exchange was there before, on its connection
abbrev pub AreOn : State → State → Type 0
AreOn s s' = (e : ℕ) (x : OpenExchange) → get s'.exchanges e ≡ Some x → (y : OpenExchange) × (get s.exchanges e ≡ Some y) × (x.connection ≡ y.connection)

on_same : (s s' : State) → s'.exchanges ≡ s.exchanges → AreOn s s'
on_same s s' same e x is = (x, sym (same_entries s.exchanges s'.exchanges e same) ∙ is, refl)

on_less : (d : ℕ) (s s' : State) → s'.exchanges ≡ remove s.exchanges d → AreOn s s'
on_less d s s' same e x is = (x, (was_left s.exchanges d e x (sym (same_entries (remove s.exchanges d) s'.exchanges e same) ∙ is)).1, refl)

on_changed : (d : ℕ) (y z : OpenExchange) (s s' : State) → get s.exchanges d ≡ Some y → z.connection ≡ y.connection → s'.exchanges ≡ insert s.exchanges d z → AreOn s s'
on_changed d y z s s' there on same e x is =
    ⊎_elim
    (λ (p : (d ≡ e) × (z ≡ x)). (y, ap (get s.exchanges) (sym p.0) ∙ there, ap (λ (x : OpenExchange). x.connection) (sym p.1) ∙ on))
    (λ (p : (d ≡ e → ⊥) × (get s.exchanges e ≡ Some x)). (x, p.1, refl))
    (was_put s.exchanges d z e x (sym (same_entries (insert s.exchanges d z) s'.exchanges e same) ∙ is))

pub on_then : (s mid s' : State) → AreOn s mid → AreOn mid s' → AreOn s s'
on_then s mid s' one more e x is =
    let later = more e x is in
    let before = one e later.0 later.1 in
    (before.0, before.1, later.2 ∙ before.2)

-- what is kept where a forward ends
pub record KeepsBeside (f : ℕ) (s s' : State) : Type 0 where
  pub others : KeepsOthers (clients_of f s) s s'
  pub ends : EndsForward f s s'
  pub on : AreOn s s'

-- the reply goes to the connection of the exchange
module _ (ended : Ended) (asker : Asker) (s : State) (actions : List Action) (s' : State) (awaits : get s.exchanges ended.exchange ≡ Some asker.exchange)
    (among : IsAmong ended.exchange (answered_by ended.forward s)) where
  outcome_keeps : (o : Outcome) → DoesOutcome o ended asker s actions s' → KeepsBeside ended.forward s s'
  outcome_keeps (Replies reply) d = record {
    others = others_one asker.exchange.connection (clients_of ended.forward s) s s' (among_connections s.exchanges (answered_by ended.forward s) ended.exchange asker.exchange among awaits)
        (others_replied asker.wanted.closes asker.exchange.connection asker.connection.unread asker.connection s s' d.connections);
    ends = ended_out ended.forward s s' d.forwards;
    on = on_less ended.exchange s s' d.exchanges;
  }
  outcome_keeps GoesAnew d = record {
    others = others_same (clients_of ended.forward s) s s' d.keeps.connections;
    ends = ended_sent ended.forward (one_more s.numbers.forward)
        (sent_forward (forward_anew asker.wanted.name asker.exchange.target asker.exchange.request).head asker.exchange.target s.numbers.moment
        (purpose.Reply ended.exchange ended.why Plain)) s s' d.forwards refl;
    on = on_same s s' d.keeps.exchanges;
  }

behind_keeps : (f : ℕ) (first : List Action) (s : State) (actions : List Action) (s' : State) → EndsBehind f first s actions s' → KeepsBeside f s s'
behind_keeps f first s actions s' d = record {
  others = others_same (clients_of f s) s s' d.keeps.connections;
  ends = ended_out f s s' d.forwards;
  on = on_same s s' d.keeps.exchanges;
}

pub answering_keeps : (settings : CoreSettings) (f : ℕ) (ended : Bool) (s : State) (actions : List Action) (s' : State) → Answers settings f ended s actions s' → KeepsBeside f s s'
answering_keeps settings f ended s actions s' t = by_purpose t.awaited.forward.purpose refl t.ends
  where
    by_purpose : (p : Purpose) → t.awaited.forward.purpose ≡ p → EndsByResponse p settings (answered_now f t.awaited.forward t.response t.renewed s) s actions s' → KeepsBeside f s s'
    by_purpose purpose.Background is_for d = behind_keeps f _ s actions s' d.1
    by_purpose (purpose.Reply e why kind) is_for d =
        outcome_keeps (record { forward = f; exchange = e; why = why; first = (answered_now f t.awaited.forward t.response t.renewed s).first }) (asker_now settings s d.exchange d.connection)
        s actions s' d.awaits (its_among f e why kind s t.awaited t.is_open is_for) d.outcome d.does

pub failing_keeps : (settings : CoreSettings) (f : ℕ) (how : Failure) (s : State) (actions : List Action) (s' : State) → Breaks settings f how s actions s' → KeepsBeside f s s'
failing_keeps settings f how s actions s' t = by_purpose t.awaited.forward.purpose refl t.ends
  where
    by_purpose : (p : Purpose) → t.awaited.forward.purpose ≡ p → EndsByFailure p settings (failed_now f t.awaited.forward.target how s) s actions s' → KeepsBeside f s s'
    by_purpose purpose.Background is_for d = behind_keeps f _ s actions s' d.1
    by_purpose (purpose.Reply e why kind) is_for d =
        outcome_keeps (record { forward = f; exchange = e; why = why; first = failure_actions f s.numbers.moment (is_closed how) }) (asker_now settings s d.exchange d.connection)
        s actions s' d.awaits (its_among f e why kind s t.awaited t.is_open is_for) d.outcome d.does

-- ---- and releasing those that waited for it

-- one is released, on the connection on which it was
pub releasing_keeps : (settings : CoreSettings) (e : ℕ) (s : State) (actions : List Action) (s' : State) (t : Releases settings e s actions s')
    → KeepsRest (t.exchange.connection ∷ []) s s' × AreOn s s'
releasing_keeps settings e s actions s' t = by_choice (shared s.numbers.moment t.chosen) t.does
  where
    by_choice : (o : Option Stored) → DoesRelease o e (asker_now settings s t.exchange t.connection) s actions s' → KeepsRest (t.exchange.connection ∷ []) s s' × AreOn s s'
    by_choice (Some stored) d = (
      (
        others_replied (wanted_now settings s t.exchange.request t.connection).closes t.exchange.connection t.connection.unread t.connection s s' d.connections,
        forwards_same s s' d.forwards,
      ),
      on_less e s s' d.exchanges,
    )
    by_choice None d = (
      (
        others_same (t.exchange.connection ∷ []) s s' d.connections,
        forwards_sent (one_more s.numbers.forward)
            (sent_forward (forward_alone settings.name t.exchange.target t.exchange.request).head t.exchange.target s.numbers.moment (purpose.Reply e UriMiss Joinable)) s s' d.forwards refl,
      ),
      on_changed e t.exchange (released t.exchange) s s' t.awaits refl d.exchanges,
    )

-- all are, whose connections are among some as they were before
pub releases_keep : (settings : CoreSettings) (clients numbers : List ℕ) (before s : State) (actions : List Action) (s' : State)
    → ((e : ℕ) (y : OpenExchange) → IsAmong e numbers → get before.exchanges e ≡ Some y → IsAmong y.connection clients) → AreOn before s
    → Run settings (map Releasing numbers) s actions s' → KeepsRest clients s s'
releases_keep settings clients [] before s actions s' among on r = same_state clients s s' r.1
releases_keep settings clients (e ∷ numbers) before s actions s' among on r =
    let one = releasing_keeps settings e s r.1 r.0 r.3 in
    let was = on e r.3.exchange r.3.awaits in
    let there : IsAmong r.3.exchange.connection clients = subst (λ (n : ℕ). IsAmong n clients) (sym was.2) (among e was.0 (inl refl) was.1) in
    rest_then clients s r.0 s'
    (others_one r.3.exchange.connection clients s r.0 there one.0.0, one.0.1)
    (releases_keep settings clients numbers before r.0 r.2 s' (λ d y is. among d y (inr is)) (on_then before s r.0 on one.1) r.5)

pub waiters_among : (f : ℕ) (s : State) (e : ℕ) (y : OpenExchange) → IsAmong e (waiting_for f s.exchanges) → get s.exchanges e ≡ Some y → IsAmong y.connection (clients_of f s)
waiters_among f s e y is there = among_connections s.exchanges (answered_by f s) e y (waiting_among f e s is) there

-- ---- nothing is left unread

-- of no other forward a whole response is unread
abbrev pub IsAwaitingBut : ℕ → State → Type 0
IsAwaitingBut f s = (g : ℕ) → (f ≡ g → ⊥) → AwaitsStill g s

pub one_among : (n : ℕ) (others : List ℕ) → IsAmong n others ⊎ (IsAmong n others → ⊥)
one_among n [] = inr (λ is. is)
one_among n (m ∷ others) =
    ⊎_elim
    (λ (same : m ≡ n). inl (inl same))
    (λ (apart : m ≡ n → ⊥).
    ⊎_elim
    (λ (there : IsAmong n others). inl (inr there))
    (λ (none : IsAmong n others → ⊥). inr (λ is. ⊎_elim (λ (same : m ≡ n). apart same) (λ (there : IsAmong n others). none there) is))
    (one_among n others))
    (cases_eq m n)

pub quiet_by : (clients : List ℕ) (s s' : State) → KeepsOthers clients s s' → IsQuiet s → ((c : ℕ) → IsAmong c clients → IsQuietAt c s') → IsQuiet s'
quiet_by clients s s' keeps quiet there d k is =
    ⊎_elim
    (λ (among : IsAmong d clients). there d among k is)
    (λ (other : IsAmong d clients → ⊥). quiet d k (sym (keeps d other) ∙ is))
    (one_among d clients)

new_awaits : (a : Awaited) → a.received ≡ [] → IsAwaitedStill (is_head a.forward.request.method) a.received
new_awaits a none = subst (IsAwaitedStill (is_head a.forward.request.method)) (sym none) (nothing_answered (is_head a.forward.request.method))

pub awaiting_by : (s s' : State) → KeepsForwards s s' → IsAwaiting s → IsAwaiting s'
awaiting_by s s' keeps awaiting g a is =
    ⊎_elim (λ (none : a.received ≡ []). new_awaits a none) (λ (before : get s.forwards g ≡ Some a). awaiting g a before) (keeps g a is)

pub awaiting_without : (f : ℕ) (s s' : State) → EndsForward f s s' → IsAwaitingBut f s → IsAwaiting s'
awaiting_without f s s' ends awaiting g a is =
    ⊎_elim
    (λ (none : a.received ≡ []). new_awaits a none)
    (λ (before : (f ≡ g → ⊥) × (get s.forwards g ≡ Some a)). awaiting g before.0 a before.1)
    (ends g a is)
