-- What is owed for what happens at a cache's links, put together of its turns.
use Rattle.std.proofs.Common.{append_assoc, append-nil, ◌≡◌, ◌<◌, ◌⊎◌, nat_le, ℕ, true, false, List, [], ◌∷◌, ◌++◌, map, option_and_then, ⊎_elim, Option, Some, None, refl, sym, ap, ◌∙◌, subst, inl, inr}
use Rattle.std.proofs.lemmas.Bool.{cases_eq, leb-false}
use Rattle.std.specs.List.{AllByRecursion}
use Rattle.std.specs.FinMap.{get}
use Rattle.std.specs.Option.{is_some}
use Rattle.hc_service.specs.declared.event.Happening.TheVariants.{ClientOpened, ClientBytes, ClientEnd, OriginBytes, OriginEnd, OriginFailed, Stopping as ToStop}
use Rattle.hc_service.specs.declared.action.Action.{Action}
use Rattle.hc_service.specs.declared.numbers.Numbers.{Numbers}
use Rattle.hc_service.specs.declared.settings.CoreSettings.{CoreSettings}
use Rattle.hc_service.specs.Agreement.{IsReady}
use Rattle.hc_service.specs.declared.open.Purpose.{Purpose}
use Rattle.hc_service.specs.declared.open.Purpose.TheVariants as purpose
use Rattle.hc_service.specs.Joining.{waiting_for}
use Rattle.hc_service.specs.Numbers.{stopping}
use Rattle.hc_service.specs.Serves.{IsQuietAt, Reads, ReadsOn, ReadsOnAll, Run, Takes, Turn, clients_of, connections_of, listed}
use Rattle.hc_service.proofs.QuietLemmas.{readings_keep}
use Rattle.hc_service.specs.Serves.Turn.{Opening, ClientSending, Answering, Failing, OriginSending, Releasing, Stopping}
use Rattle.hc_service.specs.State.{State, Connection, Awaited, exchange_for}
use Rattle.hc_service.specs.Turns.Failure.{IsBroken, IsCutOff, IsLost}
use Rattle.hc_core.specs.declared.desk.Desk.{Desk}
use Rattle.hc_core.specs.declared.receiving.ForwardStage.TheVariants.{HasEnded, IsOpen}
use Rattle.hc_core.specs.Happenings.{Does, GivesDoing}
use Rattle.hc_core.specs.Releasing.{GivesFinish, GivesReleases}
use Rattle.hc_core.specs.Waiting.{CanFinish, CanRelease}
use Rattle.hc_core.proofs.WaitingLemmas.{answer_finishes, failure_finishes}
use Rattle.hc_core.specs.Standing.{Adds, CanServe, GivesEnd, GivesEnding, GivesReading, GivesReadings, GivesReceiving, GivesTurn, DeskStandsFor, client_by, client_of, from_state, at_desk}

-- something is there
pub there : {X : Type 0} (o : Option X) → is_some o ≡ true → (x : X) × (o ≡ Some x)
there None is = absurd (cc)
there (Some x) is = (x, refl)

-- fewer than the most
pub has_place : (most many : ℕ) → nat_le most many ≡ false → many < most
has_place most many full = leb-false most many full

-- turns, and others behind them
pub run_then : (settings : CoreSettings) (turns more : List Turn) (s mid s' : State) (first rest : List Action) → Run settings turns s first mid → Run settings more mid rest s'
    → Run settings (turns ++ more) s (first ++ rest) s'
run_then settings [] more s mid s' first rest run on =
    subst (λ (x : List Action × State). Run settings more x.1 (x.0 ++ rest) s') (λ i. (sym run.0 i, run.1 i)) on
run_then settings (turn ∷ turns) more s mid s' first rest run on =
    (run.0, run.1, run.2 ++ rest, run.3, ap (λ (l : List Action). l ++ rest) run.4 ∙ append_assoc run.1 run.2 rest, run_then settings turns more run.0 mid s' run.2 rest run.5 on)

-- ---- reading connections, one after another

module _ (S H : Type 0) (settings : CoreSettings) where
  pub reads_none : (s : State) (d : Desk S H) (items : List Action) → DeskStandsFor {S = S} {H = H} settings d s → GivesReadings {S = S} {H = H} (from_state settings s items) [] (at_desk items d)
  reads_none s d items stands = record { state = s; stands = stands; turns = []; reads = refl; runs = ([], sym (append-nil items), (refl, refl)) }

  -- those that were read stay so
  quiet_still : (clients : List ℕ) (turns own : List Turn) (c : ℕ) (mid s' : State) (actions : List Action) → AllByRecursion (Reads c) own → Run settings own mid actions s' → IsQuietAt c s'
      → ReadsOnAll clients turns mid → ReadsOnAll clients turns s'
  quiet_still [] turns own c mid s' actions reads run quiet all = all
  quiet_still (e ∷ clients) turns own c mid s' actions reads run quiet all =
      (all.0, all.1, all.2, (all.3.0, still all.3.1), quiet_still clients all.1 own c mid s' actions reads run quiet all.4)
    where
      still : IsQuietAt e mid → IsQuietAt e s'
      still before = ⊎_elim
          (λ (same : c ≡ e). subst (λ (n : ℕ). IsQuietAt n s') same quiet)
          (λ (apart : c ≡ e → ⊥). λ k is. before k
          (sym ((readings_keep settings c own mid actions s' reads run).0 e (λ among. ⊎_elim (λ (same : c ≡ e). apart same) (λ (none : ⊥). none) among)) ∙ is))
          (cases_eq c e)

  reads_behind : (clients : List ℕ) (turns own : List Turn) (c : ℕ) (s' : State) → ReadsOnAll clients turns s' → ReadsOn c own s' → ReadsOnAll (clients ++ c ∷ []) (turns ++ own) s'
  reads_behind [] turns own c s' all one = (own, [], ap (λ (t : List Turn). t ++ own) all ∙ sym (append-nil own), one, refl)
  reads_behind (e ∷ clients) turns own c s' all one =
      (all.0, all.1 ++ own, ap (λ (t : List Turn). t ++ own) all.2 ∙ append_assoc all.0 all.1 own, all.3, reads_behind clients all.1 own c s' all.4 one)

  pub reads_more : (s : State) (clients : List ℕ) (c : ℕ) (a y z : List Action) (mid d : Desk S H) (first : GivesReadings {S = S} {H = H} (from_state settings s a) clients (at_desk y mid))
      → GivesReading {S = S} {H = H} (from_state settings first.state y) c false (at_desk z d) → GivesReadings {S = S} {H = H} (from_state settings s a) (clients ++ c ∷ []) (at_desk z d)
  reads_more s clients c a y z mid d first next = record {
    state = next.state;
    stands = next.stands;
    turns = first.turns ++ next.turns;
    reads = reads_behind clients first.turns next.turns c next.state
        (quiet_still clients first.turns next.turns c first.state next.state next.runs.0 next.reads next.runs.2 (next.quiet refl) first.reads) (next.reads, next.quiet refl);
    runs = (
      first.runs.0 ++ next.runs.0,
      next.runs.1 ∙ ap (λ (l : List Action). l ++ next.runs.0) first.runs.1 ∙ append_assoc a first.runs.0 next.runs.0,
      run_then settings first.turns next.turns s first.state next.state first.runs.0 next.runs.0 first.runs.2 next.runs.2,
    );
  }

  pub reads_all : (s : State) (clients all : List ℕ) (a z : List Action) (d : Desk S H) → clients ≡ all → GivesReadings {S = S} {H = H} (from_state settings s a) clients (at_desk z d)
      → GivesReadings {S = S} {H = H} (from_state settings s a) all (at_desk z d)
  reads_all s clients all a z d whole gives = subst (λ (ks : List ℕ). GivesReadings {S = S} {H = H} (from_state settings s a) ks (at_desk z d)) whole gives

  -- ---- behind the end of a forward

  pub finishes : (s : State) (f : ℕ) (client : Option ℕ) (numbers olds news : List ℕ) (a y z : List Action) (mid d : Desk S H)
      → numbers ≡ waiting_for f s.exchanges → olds ≡ listed client
      → (first : GivesReleases {S = S} {H = H} (from_state settings s a) numbers olds news (at_desk y mid)) → GivesReadings {S = S} {H = H} (from_state settings first.state y) news (at_desk z d)
      → GivesFinish {S = S} {H = H} (from_state settings s a) f client (at_desk z d)
  finishes s f client numbers olds news a y z mid d numbers-are olds-are first next = record {
    state = next.state;
    stands = next.stands;
    readings = next.turns;
    does = λ can.
        let r = first.runs (subst (λ (ks : List ℕ). CanRelease ks s) (sym numbers-are) can) in (
          (
            r.0.0 ++ next.runs.0,
            next.runs.1 ∙ ap (λ (l : List Action). l ++ next.runs.0) r.0.1 ∙ append_assoc a r.0.0 next.runs.0,
            subst (λ (ks : List ℕ). Run settings (map Releasing ks ++ next.turns) s (r.0.0 ++ next.runs.0) next.state) numbers-are
                (run_then settings (map Releasing numbers) next.turns s first.state next.state r.0.0 next.runs.0 r.0.2 next.runs.2),
          ),
          subst (λ (ks : List ℕ). ReadsOnAll ks next.turns next.state) (r.1 ∙ (λ i. olds-are i ++ connections_of s.exchanges (numbers-are i))) next.reads,
        );
  }

-- behind the end of what the origin sends the cache is that of a state
pub can_behind_end_of_origin : (S H : Type 0) (settings : CoreSettings) (s : State) (f : ℕ) (client : Option ℕ) (a z : List Action) (d : Desk S H)
    → GivesEnding {S = S} {H = H} (from_state settings s a) (Answering f true) f client (at_desk z d) ⊎ GivesEnding {S = S} {H = H} (from_state settings s a) (Failing f IsCutOff) f client (at_desk z d)
    → CanServe {S = S} {H = H} d
can_behind_end_of_origin S H settings s f client a z d (inl gives) = record { settings = settings; state = gives.state; stands = gives.stands }
can_behind_end_of_origin S H settings s f client a z d (inr gives) = record { settings = settings; state = gives.state; stands = gives.stands }

-- no actions are there before the first turn
module _ (S H : Type 0) (settings : CoreSettings) (s : State) (start : List Action) (none : start ≡ []) where
  -- ---- the cache as a whole

  pub does_stopping : (d : Desk S H) (numbers : Numbers) → DeskStandsFor {S = S} {H = H} settings d s → numbers ≡ stopping d.numbers
      → GivesDoing {S = S} {H = H} settings ToStop s start
      (record { alloc = d.alloc; incidents = d.incidents; name = d.name; numbers = numbers; clients = d.clients; exchanges = d.exchanges; links = d.links; store = d.store })
  does_stopping d numbers stands is =
      let left : State = record {
        numbers = stopping s.numbers;
        connections = s.connections;
        exchanges = s.exchanges;
        forwards = s.forwards;
        store = s.store;
      } in
      record {
        state = left;
        stands = record {
          name = stands.name;
          numbers = is ∙ ap stopping stands.numbers;
          clients = stands.clients;
          exchanges = stands.exchanges;
          links = stands.links;
          store = stands.store;
          in_time = stands.in_time;
        };
        does = λ ready. record {
          turns = Stopping ∷ [];
          owes = refl;
          run = (
            left,
            [],
            [],
            record { numbers = refl; keeps = record { connections = refl; exchanges = refl; forwards = refl; store = refl }; actions_are = refl },
            none,
            (refl, refl),
          );
        };
      }

  -- ---- clients

  pub does_opening : (c : ℕ) (d : Desk S H) → GivesTurn {S = S} {H = H} (from_state settings s []) (Opening c) (at_desk [] d) → GivesDoing {S = S} {H = H} settings (ClientOpened c) s start d
  does_opening c d gives = record {
    state = gives.state;
    stands = gives.stands;
    does = λ ready. record {
      turns = Opening c ∷ [];
      owes = refl;
      run = (gives.state, gives.takes.0, [], gives.takes.2, none ∙ gives.takes.1 ∙ sym (append-nil gives.takes.0), (refl, refl));
    };
  }

  pub does_client_sending : (c : ℕ) (octets : List ℕ) (mid d : Desk S H) (actions : List Action)
      → (first : GivesTurn {S = S} {H = H} (from_state settings s []) (ClientSending c octets) (at_desk [] mid)) → GivesReading {S = S} {H = H} (from_state settings first.state start) c false (at_desk actions d)
      → GivesDoing {S = S} {H = H} settings (ClientBytes c octets) s actions d
  does_client_sending c octets mid d actions first next = record {
    state = next.state;
    stands = next.stands;
    does = λ ready. record {
      turns = ClientSending c octets ∷ next.turns;
      owes = (next.turns, refl, (next.reads, next.quiet refl));
      run = (first.state, first.takes.0, next.runs.0, first.takes.2, next.runs.1 ∙ ap (λ (l : List Action). l ++ next.runs.0) (none ∙ first.takes.1), next.runs.2);
    };
  }

  pub does_end : (c : ℕ) (k : Connection) (d : Desk S H) (actions : List Action) → get s.connections c ≡ Some k
      → GivesEnd {S = S} {H = H} (from_state settings s start) c k (at_desk actions d) → GivesDoing {S = S} {H = H} settings (ClientEnd c) s actions d
  does_end c k d actions is gives = record {
    state = gives.state;
    stands = gives.stands;
    does = λ ready. record {
      turns = gives.turns;
      owes = (k, is, gives.owes);
      run = subst (λ (l : List Action). Run settings gives.turns s l gives.state) (sym (gives.runs.1 ∙ ap (λ (l : List Action). l ++ gives.runs.0) none)) gives.runs.2;
    };
  }

  -- ---- the origin

  -- whom the end of a forward answers: the connection of the exchange that it was for, and those of the exchanges that wait for it
  clients_by : (f : ℕ) (o : Option Awaited) → get s.forwards f ≡ o
      → clients_of f s ≡ listed (option_and_then (λ (awaited : Awaited). client_by s.exchanges awaited.forward.purpose) o) ++ connections_of s.exchanges (waiting_for f s.exchanges)
  clients_by f None is = ap (λ (o : Option Awaited). connections_of s.exchanges (listed (option_and_then (λ (awaited : Awaited). exchange_for awaited.forward.purpose) o) ++ waiting_for f s.exchanges)) is
  clients_by f (Some a) is =
      ap (λ (o : Option Awaited). connections_of s.exchanges (listed (option_and_then (λ (awaited : Awaited). exchange_for awaited.forward.purpose) o) ++ waiting_for f s.exchanges)) is
      ∙ by_purpose a.forward.purpose
    where
      by_purpose : (p : Purpose) → connections_of s.exchanges (listed (exchange_for p) ++ waiting_for f s.exchanges) ≡ listed (client_by s.exchanges p) ++ connections_of s.exchanges (waiting_for f s.exchanges)
      by_purpose purpose.Background = refl
      by_purpose (purpose.Reply e why kind) = refl

  clients_are : (f : ℕ) → clients_of f s ≡ listed (client_of f s) ++ connections_of s.exchanges (waiting_for f s.exchanges)
  clients_are f = clients_by f (get s.forwards f) refl

  module _ (f : ℕ) (client : Option ℕ) (mid : State) (can : CanFinish f s mid) (its : client ≡ client_of f s) (a z : List Action) (d : Desk S H)
      (next : GivesFinish {S = S} {H = H} (from_state settings mid a) f client (at_desk z d)) where
    -- what is done behind the turns that end the forward, as seen from before them
    finish_seen : Adds a z (λ added. Run settings (map Releasing (waiting_for f s.exchanges) ++ next.readings) mid added next.state) × ReadsOnAll (clients_of f s) next.readings next.state
    finish_seen =
        let r = next.does (subst (λ (ks : List ℕ). CanRelease ks mid) (sym can.same) can.can) in (
          (r.0.0, r.0.1, subst (λ (ks : List ℕ). Run settings (map Releasing ks ++ next.readings) mid r.0.0 next.state) can.same r.0.2),
          subst (λ (ks : List ℕ). ReadsOnAll ks next.readings next.state)
              ((λ i. listed (its i) ++ connections_of mid.exchanges (can.same i)) ∙ ap (λ (ks : List ℕ). listed (client_of f s) ++ ks) can.there ∙ sym (clients_are f)) r.1,
        )

  -- a forward ends by one turn, and behind it what waited for it is released, and connections are read
  ends_then : (turn : Turn) (f : ℕ) (client : Option ℕ) (mid d : Desk S H) (a z : List Action) (first : GivesEnding {S = S} {H = H} (from_state settings s start) turn f client (at_desk a mid))
      → (next : GivesFinish {S = S} {H = H} (from_state settings first.state a) f client (at_desk z d)) → (ready : IsReady s)
      → ((added : List Action) → Takes settings turn s added first.state → CanFinish f s first.state)
      → Run settings (turn ∷ (map Releasing (waiting_for f s.exchanges) ++ next.readings)) s z next.state × ReadsOnAll (clients_of f s) next.readings next.state
  ends_then turn f client mid d a z first next ready can =
      let t = first.takes ready in
      let r = finish_seen f client first.state (can t.0.0 t.0.2) t.1 a z d next in (
        (first.state, t.0.0, r.0.0, t.0.2, r.0.1 ∙ ap (λ (l : List Action). l ++ r.0.0) (t.0.1 ∙ ap (λ (l : List Action). l ++ t.0.0) none), r.0.2),
        r.1,
      )

  does_answer_at_end : (f : ℕ) (client : Option ℕ) (mid d : Desk S H) (a z : List Action)
      → (first : GivesEnding {S = S} {H = H} (from_state settings s start) (Answering f true) f client (at_desk a mid)) → GivesFinish {S = S} {H = H} (from_state settings first.state a) f client (at_desk z d)
      → GivesDoing {S = S} {H = H} settings (OriginEnd f) s z d
  does_answer_at_end f client mid d a z first next = record {
    state = next.state;
    stands = next.stands;
    does = λ ready. let r = ends_then (Answering f true) f client mid d a z first next ready (λ added takes. answer_finishes f s first.state settings added ready true takes) in record {
      turns = Answering f true ∷ (map Releasing (waiting_for f s.exchanges) ++ next.readings);
      owes = inl (next.readings, refl, r.1);
      run = r.0;
    };
  }

  does_failure_at_end : (f : ℕ) (client : Option ℕ) (mid d : Desk S H) (a z : List Action)
      → (first : GivesEnding {S = S} {H = H} (from_state settings s start) (Failing f IsCutOff) f client (at_desk a mid)) → GivesFinish {S = S} {H = H} (from_state settings first.state a) f client (at_desk z d)
      → GivesDoing {S = S} {H = H} settings (OriginEnd f) s z d
  does_failure_at_end f client mid d a z first next = record {
    state = next.state;
    stands = next.stands;
    does = λ ready. let r = ends_then (Failing f IsCutOff) f client mid d a z first next ready (λ added takes. failure_finishes f s first.state settings added ready IsCutOff takes) in record {
      turns = Failing f IsCutOff ∷ (map Releasing (waiting_for f s.exchanges) ++ next.readings);
      owes = inr (next.readings, refl, r.1);
      run = r.0;
    };
  }

  -- the origin sends no more: a response has come by then, or the forward fails
  pub does_end_of_origin : (f : ℕ) (client : Option ℕ) (mid d : Desk S H) (a z : List Action)
      → GivesEnding {S = S} {H = H} (from_state settings s start) (Answering f true) f client (at_desk a mid) ⊎ GivesEnding {S = S} {H = H} (from_state settings s start) (Failing f IsCutOff) f client (at_desk a mid)
      → ((q : State) → DeskStandsFor {S = S} {H = H} settings mid q → GivesFinish {S = S} {H = H} (from_state settings q a) f client (at_desk z d))
      → GivesDoing {S = S} {H = H} settings (OriginEnd f) s z d
  does_end_of_origin f client mid d a z (inl first) next = does_answer_at_end f client mid d a z first (next first.state first.stands)
  does_end_of_origin f client mid d a z (inr first) next = does_failure_at_end f client mid d a z first (next first.state first.stands)

  pub does_loss : (f : ℕ) (client : Option ℕ) (mid d : Desk S H) (a z : List Action)
      → (first : GivesEnding {S = S} {H = H} (from_state settings s start) (Failing f IsLost) f client (at_desk a mid)) → GivesFinish {S = S} {H = H} (from_state settings first.state a) f client (at_desk z d)
      → GivesDoing {S = S} {H = H} settings (OriginFailed f) s z d
  does_loss f client mid d a z first next = record {
    state = next.state;
    stands = next.stands;
    does = λ ready. let r = ends_then (Failing f IsLost) f client mid d a z first next ready (λ added takes. failure_finishes f s first.state settings added ready IsLost takes) in record {
      turns = Failing f IsLost ∷ (map Releasing (waiting_for f s.exchanges) ++ next.readings);
      owes = (next.readings, refl, r.1);
      run = r.0;
    };
  }

  -- octets of the origin, and nothing more yet
  pub does_origin_sending : (f : ℕ) (octets : List ℕ) (d : Desk S H) (z : List Action) → GivesReceiving {S = S} {H = H} (from_state settings s start) f octets IsOpen (at_desk z d)
      → GivesDoing {S = S} {H = H} settings (OriginBytes f octets) s z d
  does_origin_sending f octets d z gives = record {
    state = gives.state;
    stands = gives.stands;
    does = λ ready.
        let does = gives.does ready in record {
          turns = OriginSending f octets ∷ [];
          owes = ([], refl, inl (refl, does.2.1));
          run = subst (λ (l : List Action). Run settings (OriginSending f octets ∷ []) s l gives.state) (sym (does.1 ∙ ap (λ (l : List Action). l ++ does.0) none)) does.2.0;
        };
  }

  -- octets of the origin, which end the forward
  pub does_end_by_octets : (f : ℕ) (octets : List ℕ) (client : Option ℕ) (mid d : Desk S H) (a z : List Action)
      → (first : GivesReceiving {S = S} {H = H} (from_state settings s start) f octets (HasEnded client) (at_desk a mid)) → GivesFinish {S = S} {H = H} (from_state settings first.state a) f client (at_desk z d)
      → GivesDoing {S = S} {H = H} settings (OriginBytes f octets) s z d
  does_end_by_octets f octets client mid d a z first next = record {
    state = next.state;
    stands = next.stands;
    does = λ ready.
        let does = first.does ready in
        let r = finish_seen f client first.state does.2.2 does.2.1 a z d next in
        by (does.0) (r.0.0) (r.0.1 ∙ ap (λ (l : List Action). l ++ r.0.0) (does.1 ∙ ap (λ (l : List Action). l ++ does.0) none)) r.0.2 r.1 does.2.0;
  }
    where
      behind : List Turn
      behind = map Releasing (waiting_for f s.exchanges) ++ next.readings

      all_run : (turn : Turn) (added rest : List Action) → z ≡ added ++ rest → Run settings behind first.state rest next.state
          → Run settings (OriginSending f octets ∷ turn ∷ []) s added first.state → Run settings (OriginSending f octets ∷ turn ∷ behind) s z next.state
      all_run turn added rest all on run = subst (λ (l : List Action). Run settings (OriginSending f octets ∷ turn ∷ behind) s l next.state) (sym all)
          (run_then settings (OriginSending f octets ∷ turn ∷ []) behind s first.state next.state added rest run on)

      by : (added rest : List Action) → z ≡ added ++ rest → Run settings behind first.state rest next.state → ReadsOnAll (clients_of f s) next.readings next.state
          → Run settings (OriginSending f octets ∷ Answering f false ∷ []) s added first.state ⊎ Run settings (OriginSending f octets ∷ Failing f IsBroken ∷ []) s added first.state
          → Does settings (OriginBytes f octets) s z next.state
      by added rest all on reads (inl run) = record {
        turns = OriginSending f octets ∷ Answering f false ∷ behind;
        owes = (Answering f false ∷ behind, refl, inr (inl (next.readings, refl, reads)));
        run = all_run (Answering f false) added rest all on run;
      }
      by added rest all on reads (inr run) = record {
        turns = OriginSending f octets ∷ Failing f IsBroken ∷ behind;
        owes = (Failing f IsBroken ∷ behind, refl, inr (inr (next.readings, refl, reads)));
        run = all_run (Failing f IsBroken) added rest all on run;
      }
