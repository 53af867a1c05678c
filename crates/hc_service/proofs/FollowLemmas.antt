-- What is open follows from the actions.
use Rattle.std.specs.Prelude.{zero, suc}
use Rattle.std.proofs.Common.{◌≡◌, ℕ, ◌+◌, ◌-◌, Bool, true, false, cond, List, [], ◌∷◌, ◌++◌, map, drop, Option, Some, None, nat_eq, refl, sym, ap, ◌∙◌, subst, arith, inl, inr, ⊎_elim}
use Rattle.std.specs.Prelude.{is_some}
use Rattle.std.specs.FinMap.{get, insert, remove, len, empty_of_len, len-remove}
use Rattle.std.specs.Cmp.{nat_cmp_total}
use Rattle.std.specs.List.{AllByRecursion}
use Rattle.std.proofs.lemmas.Bool.{cases_eq, eq-eqb, ne_eqb}
use Rattle.hc_service.specs.declared.event.Event.{Event}
use Rattle.hc_service.specs.declared.event.Happening.{Happening}
use Rattle.hc_service.specs.declared.event.Happening.TheVariants.{ClientOpened, ClientBytes, ClientEnd, OriginBytes, OriginEnd, OriginFailed, Stopping as ToStop}
use Rattle.hc_service.specs.declared.action.Action.{Action}
use Rattle.hc_service.specs.declared.action.Action.TheVariants as action
use Rattle.hc_service.specs.declared.numbers.Numbers.{Numbers}
use Rattle.hc_service.specs.declared.open.Purpose.{Purpose}
use Rattle.hc_service.specs.declared.open.Purpose.TheVariants as purpose
use Rattle.hc_service.specs.declared.settings.CoreSettings.{CoreSettings}
use Rattle.hc_update.specs.declared.stored.Stored.{Stored}
use Rattle.hc_service.specs.State.{State, Table, Connection, Awaited, new_connection}
use Rattle.hc_service.specs.Joining.{shared}
use Rattle.hc_service.specs.Numbers.{one_more}
use Rattle.hc_service.specs.declared.open.ForwardKind.TheVariants.{Plain}
use Rattle.hc_service.specs.Sending.{close_actions, failure_actions, send_actions}
use Rattle.hc_service.specs.Reactions.{Reaction, forward_anew}
use Rattle.hc_service.specs.Reactions.Reaction.{Replies as RepliesAtOnce, Sends, Waits}
use Rattle.hc_service.specs.Answers.{Outcome}
use Rattle.hc_service.specs.Answers.Outcome.{Replies, GoesAnew}
use Rattle.hc_service.specs.Turns.{Answers, Asker, Asks, Breaks, DoesOutcome, DoesReaction, DoesRelease, Ended, EndsByFailure, EndsByResponse, EndsBehind, Failure, KeepsAllButConnections, Opens, Releases, after_reply, answered_now, arrived_on, asker_now, failed_now, is_closed, replied, sent_forward, whole_request}
use Rattle.hc_service.specs.Turns.Failure.{IsBroken, IsCutOff, IsLost}
use Rattle.hc_service.specs.Serves.{Turn, Takes, Run, Reads, ReadsOnAll, OwesAnswer, OwesEnd, OwesReply, Owes, Serves, clients_of, passed_to}
use Rattle.hc_service.specs.Serves.Turn.{Opening, ClientSending, Asking, Refusal, Dropping, Leaving, Closing, OriginSending, Answering, Failing, Releasing, Stopping}
use Rattle.hc_service.specs.Follows.{connection_after, forward_after, closes_in, opened_by, lost_by, one_opened, last_by, Follows}
use Rattle.hc_service.proofs.LinkLemmas.{none_some}
use Rattle.hc_service.proofs.TableLemmas.{get_put, get_out, get_none, len_new, len_old}

-- ---- actions behind others

connection_then : (c : ℕ) (xs ys : List Action) (was : Bool) → connection_after c (xs ++ ys) was ≡ connection_after c ys (connection_after c xs was)
connection_then c [] ys was = refl
connection_then c (action.ToClient d octets ∷ xs) ys was = connection_then c xs ys was
connection_then c (action.CloseClient d ∷ xs) ys was = connection_then c xs ys (cond (nat_eq d c) false was)
connection_then c (action.Forward f octets ∷ xs) ys was = connection_then c xs ys was
connection_then c (action.CloseForward f ∷ xs) ys was = connection_then c xs ys was
connection_then c (action.Record r ∷ xs) ys was = connection_then c xs ys was

forward_then : (f : ℕ) (xs ys : List Action) (was : Bool) → forward_after f (xs ++ ys) was ≡ forward_after f ys (forward_after f xs was)
forward_then f [] ys was = refl
forward_then f (action.ToClient d octets ∷ xs) ys was = forward_then f xs ys was
forward_then f (action.CloseClient d ∷ xs) ys was = forward_then f xs ys was
forward_then f (action.Forward g octets ∷ xs) ys was = forward_then f xs ys (cond (nat_eq g f) true was)
forward_then f (action.CloseForward g ∷ xs) ys was = forward_then f xs ys (cond (nat_eq g f) false was)
forward_then f (action.Record r ∷ xs) ys was = forward_then f xs ys was

closes_then : (xs ys : List Action) → closes_in (xs ++ ys) ≡ closes_in xs + closes_in ys
closes_then [] ys = omega arith
closes_then (action.ToClient d octets ∷ xs) ys = closes_then xs ys
closes_then (action.CloseClient d ∷ xs) ys = let rest = closes_then xs ys in omega (arith, rest)
closes_then (action.Forward f octets ∷ xs) ys = closes_then xs ys
closes_then (action.CloseForward f ∷ xs) ys = closes_then xs ys
closes_then (action.Record r ∷ xs) ys = closes_then xs ys

-- ---- tables

module _ {X : Type 0} where
  is_some_cond : (b : Bool) (o p : Option X) → is_some (cond b o p) ≡ cond b (is_some o) (is_some p)
  is_some_cond true o p = refl
  is_some_cond false o p = refl

  open_put : (t : Table X) (n : ℕ) (x : X) (m : ℕ) → is_some (get (insert t n x) m) ≡ cond (nat_eq n m) true (is_some (get t m))
  open_put t n x m = ap is_some (get_put t n x m) ∙ is_some_cond (nat_eq n m) (Some x) (get t m)

  open_out : (t : Table X) (n m : ℕ) → is_some (get (remove t n) m) ≡ cond (nat_eq n m) false (is_some (get t m))
  open_out t n m = ap is_some (get_out t n m) ∙ is_some_cond (nat_eq n m) None (get t m)

  -- what is put in place of what is there opens nothing
  open_old : (t : Table X) (n : ℕ) (x y : X) (m : ℕ) → get t n ≡ Some y → is_some (get (insert t n x) m) ≡ is_some (get t m)
  open_old t n x y m is =
      ⊎_elim
      (λ (same : n ≡ m). open_put t n x m ∙ ap (λ (b : Bool). cond b true (is_some (get t m))) (eq-eqb n m same) ∙ sym (ap (λ (k : ℕ). is_some (get t k)) (sym same) ∙ ap is_some is))
      (λ (other : n ≡ m → ⊥). open_put t n x m ∙ ap (λ (b : Bool). cond b true (is_some (get t m))) (ne_eqb n m other))
      (cases_eq n m)

  -- one less is there
  len_out : (t : Table X) (n : ℕ) (y : X) → get t n ≡ Some y → len (remove t n) + 1 ≡ len t
  len_out t n y is = by (len t) refl
    where
      some_there : (k : ℕ) → len t ≡ k → len (remove t n) ≡ k - 1
      some_there k e = len-remove nat_cmp_total t n ∙ ap (λ (o : Option X). cond (is_some o) (len t - 1) (len t)) is ∙ ap (λ (k : ℕ). k - 1) e

      by : (k : ℕ) → len t ≡ k → len (remove t n) + 1 ≡ len t
      by zero e = absurd (none_some (get t n) y (ap (λ (t : Table X). get t n) (empty_of_len t e) ∙ get_none n) is)
      by (suc k) e = let less = some_there (suc k) e in omega (arith, less, e)

-- ---- what turns do that open no connection

-- what an event makes of the forwards by itself
abbrev Before : Type 0
Before = ℕ → Bool → Bool

abbrev plain : Before
plain f was = was

-- it loses that one
abbrev without : ℕ → Before
without f g was = cond (nat_eq f g) false was

-- no connection opened, and the room is the same
record KeepsRoom (n n' : Numbers) : Type 0 where
  last : n'.connection ≡ n.connection
  room : n'.room ≡ n.room

stays : (n n' m : Numbers) → n' ≡ m → m.connection ≡ n.connection → m.room ≡ n.room → KeepsRoom n n'
stays n n' m is last room = record { last = ap (λ (n : Numbers). n.connection) is ∙ last; room = ap (λ (n : Numbers). n.room) is ∙ room }

record Goes (before : Before) (s : State) (actions : List Action) (s' : State) : Type 0 where
  connections : (c : ℕ) → is_some (get s'.connections c) ≡ connection_after c actions (is_some (get s.connections c))
  forwards : (f : ℕ) → is_some (get s'.forwards f) ≡ forward_after f actions (before f (is_some (get s.forwards f)))
  count : len s'.connections + closes_in actions ≡ len s.connections
  keeps : KeepsRoom s.numbers s'.numbers

-- of connections alone, and of forwards alone
record GoesAt (old : Table Connection) (actions : List Action) (new : Table Connection) : Type 0 where
  connections : (c : ℕ) → is_some (get new c) ≡ connection_after c actions (is_some (get old c))
  count : len new + closes_in actions ≡ len old

abbrev GoesOut : Before → Table Awaited → List Action → Table Awaited → Type 0
GoesOut before old actions new = (f : ℕ) → is_some (get new f) ≡ forward_after f actions (before f (is_some (get old f)))

of_parts : (before : Before) (s s' : State) (actions given : List Action) (ks : Table Connection) (fs : Table Awaited) → actions ≡ given → s'.connections ≡ ks → s'.forwards ≡ fs
    → KeepsRoom s.numbers s'.numbers → GoesAt s.connections given ks → GoesOut before s.forwards given fs → Goes before s actions s'
of_parts before s s' actions given ks fs is ek ef keeps at out = record {
  connections = λ c. ap (λ (t : Table Connection). is_some (get t c)) ek ∙ at.connections c ∙ ap (λ (a : List Action). connection_after c a (is_some (get s.connections c))) (sym is);
  forwards = λ f. ap (λ (t : Table Awaited). is_some (get t f)) ef ∙ out f ∙ ap (λ (a : List Action). forward_after f a (before f (is_some (get s.forwards f)))) (sym is);
  count = ap (λ (t : Table Connection). len t + closes_in actions) ek ∙ ap (λ (a : List Action). len ks + closes_in a) is ∙ at.count;
  keeps = keeps;
}

-- nothing is done
goes_nowhere : (s : State) → Goes plain s [] s
goes_nowhere s = record { connections = λ c. refl; forwards = λ f. refl; count = omega arith; keeps = record { last = refl; room = refl } }

goes_then : (before : Before) (s mid s' : State) (first rest : List Action) → Goes before s first mid → Goes plain mid rest s' → Goes before s (first ++ rest) s'
goes_then before s mid s' first rest one two = record {
  connections = λ c. two.connections c ∙ ap (connection_after c rest) (one.connections c) ∙ sym (connection_then c first rest (is_some (get s.connections c)));
  forwards = λ f. two.forwards f ∙ ap (forward_after f rest) (one.forwards f) ∙ sym (forward_then f first rest (before f (is_some (get s.forwards f))));
  count = let parts = closes_then first rest in let earlier = one.count in let behind = two.count in omega (arith, parts, earlier, behind);
  keeps = record { last = two.keeps.last ∙ one.keeps.last; room = two.keeps.room ∙ one.keeps.room };
}

-- a connection that is there stays
at_old : (t : Table Connection) (c : ℕ) (k old : Connection) → get t c ≡ Some old → GoesAt t [] (insert t c k)
at_old t c k old is = record {
  connections = λ d. open_old t c k old d is;
  count = let same = len_old t c k old is in omega (arith, same);
}

at_same : (t : Table Connection) → GoesAt t [] t
at_same t = record { connections = λ c. refl; count = omega arith }

-- it closes
at_out : (t : Table Connection) (c : ℕ) (old : Connection) → get t c ≡ Some old → GoesAt t (action.CloseClient c ∷ []) (remove t c)
at_out t c old is = record {
  connections = λ d. open_out t c d;
  count = len_out t c old is;
}

-- it gets a reply, and may close
at_replied : (closes : Bool) (t : Table Connection) (c : ℕ) (behind : List ℕ) (k old : Connection) → get t c ≡ Some old → GoesAt t (close_actions c closes) (replied closes c behind k t)
at_replied true t c behind k old is = at_out t c old is
at_replied false t c behind k old is = at_old t c (after_reply behind k) old is

-- which closing says nothing of forwards
none_closed : (closes : Bool) (c f : ℕ) (was : Bool) → forward_after f (close_actions c closes) was ≡ was
none_closed true c f was = refl
none_closed false c f was = refl

-- actions that close no connection
record ClosesNone (actions : List Action) : Type 0 where
  none : (c : ℕ) (was : Bool) → connection_after c actions was ≡ was
  unclosed : closes_in actions ≡ 0

-- behind others, or before them
at_then : (t u : Table Connection) (actions rest : List Action) → GoesAt t actions u → ClosesNone rest → GoesAt t (actions ++ rest) u
at_then t u actions rest at quiet = record {
  connections = λ c. at.connections c ∙ sym (connection_then c actions rest (is_some (get t c)) ∙ quiet.none c _);
  count = let parts = closes_then actions rest in let count = at.count in let unclosed = quiet.unclosed in omega (arith, parts, count, unclosed);
}

at_behind : (t u : Table Connection) (first actions : List Action) → ClosesNone first → GoesAt t actions u → GoesAt t (first ++ actions) u
at_behind t u first actions quiet at = record {
  connections = λ c. at.connections c ∙ sym (connection_then c first actions (is_some (get t c)) ∙ ap (connection_after c actions) (quiet.none c _));
  count = let parts = closes_then first actions in let count = at.count in let unclosed = quiet.unclosed in omega (arith, parts, count, unclosed);
}

-- ---- connections

one_put : (s : State) (actions : List Action) (s' : State) (c : ℕ) (k old : Connection) → get s.connections c ≡ Some old → s'.connections ≡ insert s.connections c k
    → KeepsAllButConnections s s' → actions ≡ [] → Goes plain s actions s'
one_put s actions s' c k old is ek keeps none =
    of_parts plain s s' actions [] _ s.forwards none ek keeps.forwards (stays s.numbers _ _ keeps.numbers refl refl) (at_old s.connections c k old is) (λ f. refl)

-- ---- a whole request

asks_goes : (settings : CoreSettings) (c : ℕ) (s : State) (actions : List Action) (s' : State) → Asks settings c s actions s' → Goes plain s actions s'
asks_goes settings c s actions s' t = by_reaction t.reaction t.does
  where
    closes : Bool
    closes = (whole_request settings s t.request t.target t.connection).wanted.closes

    by_reaction : (r : Reaction) → DoesReaction r (arrived_on c t.connection t.size (whole_request settings s t.request t.target t.connection)) s actions s' → Goes plain s actions s'
    by_reaction (RepliesAtOnce reply None) d =
        of_parts plain s s' actions _ _ s.forwards d.actions_are d.connections d.keeps.forwards (stays s.numbers _ _ d.numbers refl refl)
        (let at = at_replied closes s.connections c _ t.connection t.connection t.is_open in record { connections = at.connections; count = at.count })
        (λ f. sym (none_closed closes c f _))
    by_reaction (RepliesAtOnce reply (Some validation)) d =
        of_parts plain s s' actions _ _ _ d.actions_are d.connections d.forwards (stays s.numbers _ _ d.numbers refl refl)
        (let at = at_then s.connections (replied closes c (drop t.size t.connection.unread) t.connection s.connections) (close_actions c closes) (send_actions (one_more s.numbers.forward) s.numbers.moment None validation)
        (at_replied closes s.connections c (drop t.size t.connection.unread) t.connection t.connection t.is_open) (record { none = λ c was. refl; unclosed = refl }) in
        record { connections = at.connections; count = at.count })
        (λ f. open_put s.forwards (one_more s.numbers.forward) (sent_forward validation.head t.target s.numbers.moment purpose.Background) f
        ∙ sym (forward_then f (close_actions c closes) (send_actions (one_more s.numbers.forward) s.numbers.moment None validation) (is_some (get s.forwards f))
        ∙ ap (forward_after f (send_actions (one_more s.numbers.forward) s.numbers.moment None validation)) (none_closed closes c f (is_some (get s.forwards f)))))
    by_reaction (Sends forward why kind) d =
        of_parts plain s s' actions _ _ _ d.actions_are d.connections d.forwards (stays s.numbers _ _ d.numbers refl refl)
        (let at = at_old s.connections c _ t.connection t.is_open in record { connections = at.connections; count = at.count })
        (λ f. open_put s.forwards _ _ f)
    by_reaction (Waits f) d =
        of_parts plain s s' actions _ _ s.forwards d.actions_are d.connections d.forwards (stays s.numbers _ _ d.numbers refl refl)
        (let at = at_old s.connections c _ t.connection t.is_open in record { connections = at.connections; count = at.count })
        (λ f. refl)

-- ---- a forward ends

-- what is done first ends that forward, with what the event did to it, and closes no connection
record EndsFirst (before : Before) (f : ℕ) (first : List Action) : Type 0 where
  quiet : ClosesNone first
  ends : (g : ℕ) (was : Bool) → forward_after g first (before g was) ≡ cond (nat_eq f g) false was

outcome_goes : (before : Before) (ended : Ended) (asker : Asker) (o : Outcome) (s : State) (actions : List Action) (s' : State) (old : Connection)
    → get s.connections asker.exchange.connection ≡ Some old → EndsFirst before ended.forward ended.first → DoesOutcome o ended asker s actions s' → Goes before s actions s'
outcome_goes before ended asker (Replies reply) s actions s' old is first d =
    of_parts before s s' actions _ _ _ d.actions_are d.connections d.forwards (stays s.numbers _ _ d.numbers refl refl)
    (at_behind s.connections _ ended.first _ first.quiet
    (let at = at_replied asker.wanted.closes s.connections asker.exchange.connection asker.connection.unread asker.connection old is in record { connections = at.connections; count = at.count }))
    (λ g. open_out s.forwards ended.forward g ∙ sym (forward_then g ended.first _ _ ∙ none_closed asker.wanted.closes asker.exchange.connection g _ ∙ first.ends g _))
outcome_goes before ended asker GoesAnew s actions s' old is first d =
    of_parts before s s' actions _ s.connections _ d.actions_are d.keeps.connections d.forwards (stays s.numbers _ _ d.numbers refl refl)
    (at_behind s.connections _ ended.first _ first.quiet (record { connections = λ c. refl; count = omega arith }))
    (λ g. open_put (remove s.forwards ended.forward) (one_more s.numbers.forward)
    (sent_forward (forward_anew asker.wanted.name asker.exchange.target asker.exchange.request).head asker.exchange.target s.numbers.moment (purpose.Reply ended.exchange ended.why Plain)) g
    ∙ ap (λ (was : Bool). cond (nat_eq (one_more s.numbers.forward) g) true was) (open_out s.forwards ended.forward g ∙ sym (first.ends g _))
    ∙ sym (forward_then g ended.first _ _))

-- how a failure's first actions end it
abbrev how_before : Failure → ℕ → Before
how_before IsBroken f = plain
how_before IsCutOff f = plain
how_before IsLost f = without f

failure_first : (how : Failure) (f moment : ℕ) → EndsFirst (how_before how f) f (failure_actions f moment (is_closed how))
failure_first IsBroken f moment = record { quiet = record { none = λ c was. refl; unclosed = refl }; ends = λ g was. refl }
failure_first IsCutOff f moment = record { quiet = record { none = λ c was. refl; unclosed = refl }; ends = λ g was. refl }
failure_first IsLost f moment = record { quiet = record { none = λ c was. refl; unclosed = refl }; ends = λ g was. refl }

-- for the store alone
behind_goes : (before : Before) (f : ℕ) (first : List Action) (s : State) (actions : List Action) (s' : State) → EndsFirst before f first → EndsBehind f first s actions s' → Goes before s actions s'
behind_goes before f first s actions s' is d =
    of_parts before s s' actions first s.connections _ d.actions_are d.keeps.connections d.forwards (stays s.numbers _ _ d.numbers refl refl)
    (record { connections = λ c. sym (is.quiet.none c _); count = let unclosed = is.quiet.unclosed in omega (arith, unclosed) })
    (λ g. open_out s.forwards f g ∙ sym (is.ends g _))

answering_goes : (settings : CoreSettings) (f : ℕ) (ended : Bool) (s : State) (actions : List Action) (s' : State) → Answers settings f ended s actions s' → Goes plain s actions s'
answering_goes settings f ended s actions s' t = by_purpose t.awaited.forward.purpose t.ends
  where
    first : EndsFirst plain f (answered_now f t.awaited.forward t.response t.renewed s).first
    first = record { quiet = record { none = λ c was. refl; unclosed = refl }; ends = λ g was. refl }

    by_purpose : (p : Purpose) → EndsByResponse p settings (answered_now f t.awaited.forward t.response t.renewed s) s actions s' → Goes plain s actions s'
    by_purpose purpose.Background d = behind_goes plain f _ s actions s' first d.1
    by_purpose (purpose.Reply e why kind) d =
        outcome_goes plain (record { forward = f; exchange = e; why = why; first = (answered_now f t.awaited.forward t.response t.renewed s).first })
        (asker_now settings s d.exchange d.connection) d.outcome s actions s' d.connection d.is_open first d.does

failing_goes : (settings : CoreSettings) (f : ℕ) (how : Failure) (s : State) (actions : List Action) (s' : State) → Breaks settings f how s actions s' → Goes (how_before how f) s actions s'
failing_goes settings f how s actions s' t = by_purpose t.awaited.forward.purpose t.ends
  where
    by_purpose : (p : Purpose) → EndsByFailure p settings (failed_now f t.awaited.forward.target how s) s actions s' → Goes (how_before how f) s actions s'
    by_purpose purpose.Background d = behind_goes (how_before how f) f _ s actions s' (failure_first how f s.numbers.moment) d.1
    by_purpose (purpose.Reply e why kind) d =
        outcome_goes (how_before how f) (record { forward = f; exchange = e; why = why; first = (failed_now f t.awaited.forward.target how s).first })
        (asker_now settings s d.exchange d.connection) d.outcome s actions s' d.connection d.is_open (failure_first how f s.numbers.moment) d.does

releasing_goes : (settings : CoreSettings) (e : ℕ) (s : State) (actions : List Action) (s' : State) → Releases settings e s actions s' → Goes plain s actions s'
releasing_goes settings e s actions s' t = by_choice (shared s.numbers.moment t.chosen) t.does
  where
    asker : Asker
    asker = asker_now settings s t.exchange t.connection

    by_choice : (o : Option Stored) → DoesRelease o e asker s actions s' → Goes plain s actions s'
    by_choice (Some stored) d =
        of_parts plain s s' actions _ _ s.forwards d.actions_are d.connections d.forwards (stays s.numbers _ _ d.numbers refl refl)
        (let at = at_replied asker.wanted.closes s.connections t.exchange.connection t.connection.unread t.connection t.connection t.is_open in record { connections = at.connections; count = at.count })
        (λ g. sym (none_closed asker.wanted.closes t.exchange.connection g _))
    by_choice None d =
        of_parts plain s s' actions _ s.connections _ d.actions_are d.connections d.forwards (stays s.numbers _ _ d.numbers refl refl)
        (record { connections = λ c. refl; count = omega arith })
        (λ g. open_put s.forwards _ _ g)

-- ---- turns

-- it opens no connection, and loses no forward by itself
abbrev IsPlain : Turn → Type 0
IsPlain (Opening c) = ⊥
IsPlain (Failing f IsLost) = ⊥
IsPlain turn = Unit {0}

turn_goes : (settings : CoreSettings) (turn : Turn) (s : State) (actions : List Action) (s' : State) → IsPlain turn → Takes settings turn s actions s' → Goes plain s actions s'
turn_goes settings (Opening c) s actions s' is t = absurd is
turn_goes settings (ClientSending c octets) s actions s' is t = one_put s actions s' c _ t.connection t.is_open t.connections t.keeps t.actions_are
turn_goes settings (Asking c) s actions s' is t = asks_goes settings c s actions s' t
turn_goes settings (Refusal c status) s actions s' is t =
    of_parts plain s s' actions _ _ s.forwards t.actions_are t.connections t.keeps.forwards (stays s.numbers _ _ t.keeps.numbers refl refl)
    (let at = at_out s.connections c t.connection t.is_open in record { connections = at.connections; count = at.count }) (λ f. refl)
turn_goes settings (Dropping c) s actions s' is t = one_put s actions s' c _ t.connection t.is_open t.connections t.keeps t.actions_are
turn_goes settings (Leaving c) s actions s' is t = one_put s actions s' c _ t.connection t.is_open t.connections t.keeps t.actions_are
turn_goes settings (Closing c) s actions s' is t =
    of_parts plain s s' actions _ _ s.forwards t.actions_are t.connections t.keeps.forwards (stays s.numbers _ _ t.keeps.numbers refl refl)
    (let at = at_out s.connections c t.connection t.is_open in record { connections = at.connections; count = at.count }) (λ f. refl)
turn_goes settings (OriginSending f octets) s actions s' is t =
    of_parts plain s s' actions [] s.connections _ t.actions_are t.keeps.connections t.forwards (stays s.numbers _ _ t.keeps.numbers refl refl) (at_same s.connections)
    (λ g. open_old s.forwards f _ t.awaited g t.is_open)
turn_goes settings (Answering f ended) s actions s' is t = answering_goes settings f ended s actions s' t
turn_goes settings (Failing f IsBroken) s actions s' is t = failing_goes settings f IsBroken s actions s' t
turn_goes settings (Failing f IsCutOff) s actions s' is t = failing_goes settings f IsCutOff s actions s' t
turn_goes settings (Failing f IsLost) s actions s' is t = absurd is
turn_goes settings (Releasing e) s actions s' is t = releasing_goes settings e s actions s' t
turn_goes settings Stopping s actions s' is t =
    of_parts plain s s' actions [] s.connections s.forwards t.actions_are t.keeps.connections t.keeps.forwards (stays s.numbers _ _ t.numbers refl refl) (at_same s.connections) (λ f. refl)

run_goes : (settings : CoreSettings) (turns : List Turn) (s : State) (actions : List Action) (s' : State) → AllByRecursion IsPlain turns → Run settings turns s actions s' → Goes plain s actions s'
run_goes settings [] s actions s' are r = subst (λ (a : List Action). Goes plain s a s') (sym r.0) (subst (λ (t : State). Goes plain s [] t) (sym r.1) (goes_nowhere s))
run_goes settings (turn ∷ turns) s actions s' are r =
    subst (λ (a : List Action). Goes plain s a s') (sym r.4)
    (goes_then plain s r.0 s' r.1 r.2 (turn_goes settings turn s r.1 r.0 are.0 r.3) (run_goes settings turns r.0 r.2 s' are.1 r.5))

-- ---- the turns that an event owes

plain_reading : (c : ℕ) (turn : Turn) → Reads c turn → IsPlain turn
plain_reading c (Asking d) is = tt
plain_reading c (Refusal d status) is = tt
plain_reading c (Dropping d) is = tt
plain_reading c (Opening d) is = absurd is
plain_reading c (ClientSending d octets) is = absurd is
plain_reading c (Leaving d) is = absurd is
plain_reading c (Closing d) is = absurd is
plain_reading c (OriginSending f octets) is = absurd is
plain_reading c (Answering f ended) is = absurd is
plain_reading c (Failing f how) is = absurd is
plain_reading c (Releasing e) is = absurd is
plain_reading c Stopping is = absurd is

plain_readings : (c : ℕ) (turns : List Turn) → AllByRecursion (Reads c) turns → AllByRecursion IsPlain turns
plain_readings c [] are = tt
plain_readings c (turn ∷ turns) are = (plain_reading c turn are.0, plain_readings c turns are.1)

plain_then : (turns more : List Turn) → AllByRecursion IsPlain turns → AllByRecursion IsPlain more → AllByRecursion IsPlain (turns ++ more)
plain_then [] more are others = others
plain_then (turn ∷ turns) more are others = (are.0, plain_then turns more are.1 others)

plain_all : (clients : List ℕ) (turns : List Turn) (s' : State) → ReadsOnAll clients turns s' → AllByRecursion IsPlain turns
plain_all [] turns s' is = subst (AllByRecursion IsPlain) (sym is) tt
plain_all (c ∷ clients) turns s' is =
    subst (AllByRecursion IsPlain) (sym is.2) (plain_then is.0 is.1 (plain_readings c is.0 is.3.0) (plain_all clients is.1 s' is.4))

plain_releases : (numbers : List ℕ) → AllByRecursion IsPlain (map Releasing numbers)
plain_releases [] = tt
plain_releases (e ∷ numbers) = (tt, plain_releases numbers)

-- behind the turn that ends a forward
plain_behind : (numbers clients : List ℕ) (readings : List Turn) (s' : State) → ReadsOnAll clients readings s' → AllByRecursion IsPlain (map Releasing numbers ++ readings)
plain_behind numbers clients readings s' is = plain_then (map Releasing numbers) readings (plain_releases numbers) (plain_all clients readings s' is)

plain_reply : (f : ℕ) (turn : Turn) (turns : List Turn) (s s' : State) → IsPlain turn → OwesReply f turn turns s s' → AllByRecursion IsPlain turns
plain_reply f turn turns s s' is owes = subst (AllByRecursion IsPlain) (sym owes.1) (is, plain_behind _ (clients_of f s) owes.0 s' owes.2)

plain_end : (c : ℕ) (leaves : Bool) (exchange : Option ℕ) (turns : List Turn) → OwesEnd c leaves exchange turns → AllByRecursion IsPlain turns
plain_end c true exchange turns is = subst (AllByRecursion IsPlain) (sym is) tt
plain_end c false (Some e) turns is = subst (AllByRecursion IsPlain) (sym is) (tt, tt)
plain_end c false None turns (inl is) = subst (AllByRecursion IsPlain) (sym is) (tt, tt)
plain_end c false None turns (inr is) = subst (AllByRecursion IsPlain) (sym is.1) (tt, tt)

plain_answer : (f : ℕ) (turns : List Turn) (s s' : State) → OwesAnswer f turns s s' → AllByRecursion IsPlain turns
plain_answer f turns s s' (inl is) = subst (AllByRecursion IsPlain) (sym is.0) tt
plain_answer f turns s s' (inr (inl is)) = plain_reply f (Answering f false) turns s s' tt is
plain_answer f turns s s' (inr (inr is)) = plain_reply f (Failing f IsBroken) turns s s' tt is

-- ---- events

of_goes : (happening : Happening) (moment : ℕ) (s : State) (actions : List Action) (s' : State) → ((c : ℕ) (was : Bool) → opened_by c happening was ≡ was) → one_opened happening ≡ 0
    → last_by happening s.numbers.connection ≡ s.numbers.connection → Goes (λ f was. lost_by f happening was) (passed_to moment s) actions s' → Follows happening s actions s'
of_goes happening moment s actions s' none unopened same g = record {
  connections = λ c. g.connections c ∙ ap (connection_after c actions) (sym (none c (is_some (get s.connections c))));
  forwards = g.forwards;
  count = let count = g.count in omega (arith, count, unopened);
  last = g.keeps.last ∙ sym same;
  room = g.keeps.room;
}

owed_follows : (settings : CoreSettings) (moment : ℕ) (happening : Happening) (turns : List Turn) (s : State) (actions : List Action) (s' : State)
    → Owes happening turns s s' → ((c : ℕ) → happening ≡ ClientOpened c → get s.connections c ≡ None)
    → Run settings turns (passed_to moment s) actions s' → Follows happening s actions s'
owed_follows settings moment (ClientOpened c) turns s actions s' owes new run =
    let r = subst (λ (turns : List Turn). Run settings turns (passed_to moment s) actions s') owes run in
    opened r.1 r.0 r.2 r.3 r.4 r.5
  where
    opened : (first : List Action) (mid : State) (rest : List Action) → Opens c (passed_to moment s) first mid → actions ≡ first ++ rest → Run settings [] mid rest s' → Follows (ClientOpened c) s actions s'
    opened first mid rest t split end =
        subst (λ (a : List Action). Follows (ClientOpened c) s a s') (sym (split ∙ ap (λ (a : List Action). a ++ rest) t.actions_are ∙ end.0))
        (subst (λ (u : State). Follows (ClientOpened c) s [] u) (sym end.1)
        (record {
          connections = λ d. ap (λ (t : Table Connection). is_some (get t d)) t.connections ∙ open_put s.connections c _ d;
          forwards = λ f. ap (λ (t : Table Awaited). is_some (get t f)) t.keeps.forwards;
          count = let one = len_new s.connections c new_connection (new c refl) in let is = ap (λ (t : Table Connection). len t) t.connections in omega (arith, one, is);
          last = ap (λ n. n.connection) t.numbers;
          room = ap (λ n. n.room) t.numbers;
        }))
owed_follows settings moment (ClientBytes c octets) turns s actions s' owes new run =
    of_goes (ClientBytes c octets) moment s actions s' (λ d was. refl) refl refl
    (run_goes settings turns (passed_to moment s) actions s' (subst (AllByRecursion IsPlain) (sym owes.1) (tt, plain_readings c owes.0 owes.2.0)) run)
owed_follows settings moment (ClientEnd c) turns s actions s' owes new run =
    of_goes (ClientEnd c) moment s actions s' (λ d was. refl) refl refl
    (run_goes settings turns (passed_to moment s) actions s' (plain_end c owes.0.leaves owes.0.exchange turns owes.2) run)
owed_follows settings moment (OriginBytes f octets) turns s actions s' owes new run =
    of_goes (OriginBytes f octets) moment s actions s' (λ d was. refl) refl refl
    (run_goes settings turns (passed_to moment s) actions s' (subst (AllByRecursion IsPlain) (sym owes.1) (tt, plain_answer f owes.0 s s' owes.2)) run)
owed_follows settings moment (OriginEnd f) turns s actions s' (inl owes) new run =
    of_goes (OriginEnd f) moment s actions s' (λ d was. refl) refl refl
    (run_goes settings turns (passed_to moment s) actions s' (plain_reply f (Answering f true) turns s s' tt owes) run)
owed_follows settings moment (OriginEnd f) turns s actions s' (inr owes) new run =
    of_goes (OriginEnd f) moment s actions s' (λ d was. refl) refl refl
    (run_goes settings turns (passed_to moment s) actions s' (plain_reply f (Failing f IsCutOff) turns s s' tt owes) run)
owed_follows settings moment (OriginFailed f) turns s actions s' owes new run =
    let r = subst (λ (turns : List Turn). Run settings turns (passed_to moment s) actions s') owes.1 run in
    of_goes (OriginFailed f) moment s actions s' (λ d was. refl) refl refl
    (subst (λ (a : List Action). Goes (without f) (passed_to moment s) a s') (sym r.4)
    (goes_then (without f) (passed_to moment s) r.0 s' r.1 r.2 (failing_goes settings f IsLost (passed_to moment s) r.1 r.0 r.3)
    (run_goes settings _ r.0 r.2 s' (plain_behind _ (clients_of f s) owes.0 s' owes.2) r.5)))
owed_follows settings moment ToStop turns s actions s' owes new run =
    of_goes ToStop moment s actions s' (λ d was. refl) refl refl
    (run_goes settings turns (passed_to moment s) actions s' (subst (AllByRecursion IsPlain) (sym owes) (tt, tt)) run)

pub event_follows : (settings : CoreSettings) (event : Event) (s : State) (actions : List Action) (s' : State) → ((c : ℕ) → event.of ≡ ClientOpened c → get s.connections c ≡ None)
    → Serves settings event s actions s' → Follows event.of s actions s'
event_follows settings event s actions s' new v = owed_follows settings event.moment event.of v.turns s actions s' v.owes new v.run
