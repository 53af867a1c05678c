-- An exchange that waited is released: what that makes of each part; and some are, one after another.
use Rattle.std.proofs.Common.{append_assoc, append-nil, ◌≡◌, ℕ, Bool, ◌||◌, cond, List, [], ◌∷◌, ◌++◌, map, length, arith, Option, Some, None, refl, sym, ap, ◌∙◌, subst, option_map}
use Rattle.std.specs.BTreeMap.{BTreeMap}
use Rattle.std.specs.FinMap.{get, insert, remove}
use Rattle.hc_head.specs.declared.head.ResponseHead.{ResponseHead}
use Rattle.hc_head.specs.Methods.{is_head}
use Rattle.hc_framing.specs.declared.message.Message.{Message}
use Rattle.hc_reactions.specs.Releasing.{shared_reply}
use Rattle.hc_store.specs.Entries.{Holdings}
use Rattle.hc_update.specs.declared.stored.Stored.{Stored}
use Rattle.hc_service.specs.declared.action.Action.{Action}
use Rattle.hc_service.specs.declared.cases.Cause.TheVariants.{UriMiss}
use Rattle.hc_service.specs.declared.numbers.Numbers.{Numbers}
use Rattle.hc_service.specs.declared.open.ForwardKind.TheVariants.{Joinable}
use Rattle.hc_service.specs.declared.open.OpenExchange.{OpenExchange}
use Rattle.hc_service.specs.declared.open.Purpose.TheVariants as purpose
use Rattle.hc_service.specs.declared.settings.CoreSettings.{CoreSettings}
use Rattle.hc_service.specs.Asking.{ends_connection}
use Rattle.hc_service.specs.Choices.{Finds}
use Rattle.hc_service.specs.Joining.{shared}
use Rattle.hc_service.specs.Numbers.{noted, one_more, sent}
use Rattle.hc_service.specs.Reactions.{forward_alone}
use Rattle.hc_service.specs.Replying.{Wanted, collapsed_reply}
use Rattle.hc_service.specs.Sending.{reply_actions, send_actions}
use Rattle.hc_service.specs.Serves.{Run, Turn, connections_of, listed}
use Rattle.hc_service.specs.Serves.Turn.{Releasing}
use Rattle.hc_service.specs.State.{State}
use Rattle.hc_service.specs.Turns.{DoesRelease, Releases, after_reply, asker_now, closes_behind, released, replied, sent_forward, wanted_now}
use Rattle.hc_service.proofs.LinkLemmas.{none_some, one_of}
use Rattle.hc_open.specs.declared.links.Client.{Client}
use Rattle.hc_open.specs.declared.open_exchanges.OpenExchanges.{OpenExchanges}
use Rattle.hc_open.specs.declared.open_links.OpenLinks.{OpenLinks}
use Rattle.hc_open.specs.Links.{AreClients, AreExchanges, AreLinks}
use Rattle.hc_open.proofs.TableLemmas.{put_back, put_same}
use Rattle.hc_core.specs.declared.answering.HeldExchange.{HeldExchange}
use Rattle.hc_core.specs.declared.desk.Desk.{Desk}
use Rattle.hc_core.specs.Ending.{IsMissing, IsTaken, is_last, wanted_of}
use Rattle.hc_core.specs.Reading.{RepliesTo, SendsReply}
use Rattle.hc_core.specs.Releasing.{AsksAlone, GivesRelease, GivesReleased, GivesReleases, ReleasesHeld, SendsAlone}
use Rattle.hc_core.specs.Standing.{Adds, DeskStandsFor, from_state, at_desk}
use Rattle.hc_core.specs.Waiting.{CanRelease, IsWaiting, connection_of}
use Rattle.hc_core.proofs.ReadLemmas.{runs_on}
use Rattle.hc_core.proofs.WaitingLemmas.{can_still, connections_still}

-- ---- one

module _ (S H : Type 0) (settings : CoreSettings) (d : Desk S H) (s : State) (e : ℕ) (stands : DeskStandsFor {S = S} {H = H} settings d s) where
  -- what is kept once the exchange is taken out
  abbrev pub taken_of : BTreeMap ℕ Client → OpenExchanges → Desk S H
  taken_of clients exchanges = record { alloc = d.alloc; incidents = d.incidents; name = d.name; numbers = d.numbers; clients = clients; exchanges = exchanges; links = d.links; store = d.store }

  -- it isn't there, or its connection isn't
  pub releases_missing : (clients : BTreeMap ℕ Client) (exchanges : OpenExchanges) (items : List Action) (olds : List ℕ) → IsMissing e s.exchanges s.connections exchanges clients
      → GivesRelease {S = S} {H = H} (from_state settings s items) e olds olds (at_desk items (taken_of clients exchanges))
  releases_missing clients exchanges items olds missing = record {
    state = record { numbers = s.numbers; connections = missing.connections_left; exchanges = missing.exchanges_left; forwards = s.forwards; store = s.store };
    stands = record {
      name = stands.name;
      numbers = stands.numbers;
      clients = missing.are_clients;
      exchanges = missing.are_exchanges;
      links = stands.links;
      store = stands.store;
      in_time = stands.in_time;
    };
    takes = λ waits all.
        let on = all e waits.exchange waits.is_open in
        absurd (none_some (get s.connections waits.exchange.connection) on.connection (missing.no_connection waits.exchange waits.is_open) on.is_open);
  }

  module _ (w : HeldExchange) (clients : BTreeMap ℕ Client) (exchanges : OpenExchanges) (taken : IsTaken e w s.exchanges s.connections exchanges clients)
      (a z : List Action) (new : Desk S H) (olds news : List ℕ) (added-is : news ≡ olds ++ w.exchange.connection ∷ []) where
    moment_now : d.numbers.moment ≡ s.numbers.moment
    moment_now = ap (λ (n : Numbers). n.moment) stands.numbers

    closes_now : is_last d.numbers w ≡ closes_behind w.exchange.request taken.connection s.numbers
    closes_now i = ends_connection w.exchange.request || (taken.is_client.leaves i || (stands.numbers i).closing)

    wanted_is : wanted_of (taken_of clients exchanges) w ≡ wanted_now settings s w.exchange.request taken.connection
    wanted_is i = record { name = stands.name i; moment = moment_now i; asked = w.exchange.request; closes = closes_now i }

    listed_is : news ≡ olds ++ listed (connection_of e s)
    listed_is = added-is ∙ ap (λ (o : Option OpenExchange). olds ++ listed (option_map (λ (y : OpenExchange). y.connection) o)) (sym taken.is_open)

    -- the turn, by what the store chose and what of that is shared
    releases_by : (chosen : Option Stored) (added : List Action) (s' : State) → Finds w.exchange.target w.exchange.request.fields s.store chosen s'.store
        → DoesRelease (shared s.numbers.moment chosen) e (asker_now settings s w.exchange taken.connection) s added s' → IsWaiting e s → Releases settings e s added s'
    releases_by chosen added s' finds does waits = record {
      exchange = w.exchange;
      awaits = taken.is_open;
      forward = waits.forward;
      waits = ap (λ (y : OpenExchange). y.waits_for) (one_of (get s.exchanges e) w.exchange waits.exchange taken.is_open waits.is_open) ∙ waits.waits;
      connection = taken.connection;
      is_open = taken.there;
      chosen = chosen;
      finds = finds;
      does = does;
    }

    -- it gets its reply
    releases_reply : (chosen : Option Stored) (stored : Stored) → Some stored ≡ shared s.numbers.moment chosen → Finds w.exchange.target w.exchange.request.fields s.store chosen new.store
        → RepliesTo {S = S} {H = H} w (is_last d.numbers w) (collapsed_reply (wanted_of (taken_of clients exchanges) w) stored) (at_desk a (taken_of clients exchanges)) (at_desk z new)
        → GivesRelease {S = S} {H = H} (from_state settings s a) e olds news (at_desk z new)
    releases_reply chosen stored is finds gives =
        let reply = collapsed_reply (wanted_now settings s w.exchange.request taken.connection) stored in
        let left : State = record {
          numbers = noted s.numbers;
          connections = replied (closes_behind w.exchange.request taken.connection s.numbers) w.exchange.connection taken.connection.unread taken.connection s.connections;
          exchanges = remove s.exchanges e;
          forwards = s.forwards;
          store = new.store;
        } in
        let replies : List Action = reply_actions e s.numbers.moment (is_head w.exchange.request.method) w.exchange.connection (closes_behind w.exchange.request taken.connection s.numbers) reply in
        record {
          state = left;
          stands = record {
            name = gives.keeps.name ∙ stands.name;
            numbers = gives.numbers ∙ ap noted stands.numbers;
            clients = subst (AreClients new.clients)
                (λ i. cond (closes_now i) (remove s.connections w.exchange.connection) (put_back s.connections w.exchange.connection (after_reply taken.connection.unread taken.connection) i))
                (gives.clients (remove s.connections w.exchange.connection) (after_reply taken.connection.unread taken.connection) taken.are_clients
                (record { reads = taken.is_client.reads; exchange = refl; leaves = taken.is_client.leaves }));
            exchanges = subst (λ (y : OpenExchanges). AreExchanges y (remove s.exchanges e)) (sym gives.keeps.exchanges) taken.are_exchanges;
            links = subst (λ (y : OpenLinks). AreLinks y s.forwards) (sym gives.keeps.links) stands.links;
            store = refl;
            in_time = stands.in_time;
          };
          takes = λ waits all. (
            (
              replies,
              gives.actions ∙ (λ i. a ++ reply_actions (taken.number_is i) (moment_now i) (is_head w.exchange.request.method) w.exchange.connection (closes_now i) (collapsed_reply (wanted_is i) stored)),
              releases_by chosen replies left finds
                  (subst (λ (o : Option Stored). DoesRelease o e (asker_now settings s w.exchange taken.connection) s replies left) is
                  (record { numbers = refl; connections = refl; exchanges = refl; forwards = refl; actions_are = refl })) waits,
            ),
            listed_is,
          );
        }

    -- it goes to the origin by a forward of its own
    releases_alone : (chosen : Option Stored) → None ≡ shared s.numbers.moment chosen → Finds w.exchange.target w.exchange.request.fields s.store chosen new.store
        → AsksAlone {S = S} {H = H} w (at_desk a (taken_of clients exchanges)) (at_desk z new)
        → GivesRelease {S = S} {H = H} (from_state settings s a) e olds news (at_desk z new)
    releases_alone chosen is finds gives =
        let next : one_more d.numbers.forward ≡ one_more s.numbers.forward = ap (λ (n : Numbers). one_more n.forward) stands.numbers in
        let request = forward_alone settings.name w.exchange.target w.exchange.request in
        let left : State = record {
          numbers = sent s.numbers;
          connections = s.connections;
          exchanges = insert s.exchanges e (released w.exchange);
          forwards = insert s.forwards (one_more s.numbers.forward) (sent_forward request.head w.exchange.target s.numbers.moment (purpose.Reply e UriMiss Joinable));
          store = new.store;
        } in
        let sends : List Action = send_actions (one_more s.numbers.forward) s.numbers.moment (Some e) request in
        record {
          state = left;
          stands = record {
            name = gives.name ∙ stands.name;
            numbers = gives.numbers ∙ ap sent stands.numbers;
            clients = subst (AreClients new.clients) (put_back s.connections w.exchange.connection taken.connection ∙ put_same s.connections w.exchange.connection taken.connection taken.there)
                (gives.clients (remove s.connections w.exchange.connection) taken.connection taken.are_clients taken.is_client);
            exchanges = subst (AreExchanges new.exchanges)
                (ap (λ (q : ℕ). insert (remove s.exchanges e) q (released w.exchange)) taken.number_is ∙ put_back s.exchanges e (released w.exchange))
                (gives.exchanges (remove s.exchanges e) taken.are_exchanges);
            links = subst (AreLinks new.links)
                (λ i. insert s.forwards (next i)
                (sent_forward (forward_alone (stands.name i) w.exchange.target w.exchange.request).head w.exchange.target (moment_now i) (purpose.Reply (taken.number_is i) UriMiss Joinable)))
                (gives.links s.forwards stands.links);
            store = refl;
            in_time = stands.in_time;
          };
          takes = λ waits all. (
            (
              sends,
              gives.actions ∙ (λ i. a ++ send_actions (next i) (moment_now i) (Some (taken.number_is i)) (forward_alone (stands.name i) w.exchange.target w.exchange.request)),
              releases_by chosen sends left finds
                  (subst (λ (o : Option Stored). DoesRelease o e (asker_now settings s w.exchange taken.connection) s sends left) is
                  (record { numbers = refl; connections = refl; exchanges = refl; forwards = refl; actions_are = refl })) waits,
            ),
            listed_is,
          );
        }

    releases_held : (chosen o : Option Stored) → o ≡ shared s.numbers.moment chosen → Finds w.exchange.target w.exchange.request.fields s.store chosen new.store
        → ReleasesHeld {S = S} {H = H} o w (at_desk a (taken_of clients exchanges)) (at_desk z new) → GivesRelease {S = S} {H = H} (from_state settings s a) e olds news (at_desk z new)
    releases_held chosen (Some stored) is finds does = releases_reply chosen stored is finds does
    releases_held chosen None is finds does = releases_alone chosen is finds does

    pub releases_one : GivesReleased {S = S} {H = H} w (at_desk a (taken_of clients exchanges)) (at_desk z new) → GivesRelease {S = S} {H = H} (from_state settings s a) e olds news (at_desk z new)
    releases_one gives =
        releases_held gives.chosen (shared d.numbers.moment gives.chosen) (ap (λ (m : ℕ). shared m gives.chosen) moment_now)
        (subst (λ (h : Holdings). Finds w.exchange.target w.exchange.request.fields h gives.chosen new.store) stands.store gives.finds) gives.does

-- ---- what the code does for one that was taken out

module _ (S H : Type 0) (w : HeldExchange) (before after : List Action) (d new : Desk S H) (store : Holdings) (closes : Bool) (closes_is : closes ≡ is_last d.numbers w) where
  abbrev pub asked_with : Desk S H
  asked_with = record { alloc = d.alloc; incidents = d.incidents; name = d.name; numbers = d.numbers; clients = d.clients; exchanges = d.exchanges; links = d.links; store = store }

  abbrev pub wanted_with : Wanted
  wanted_with = record { name = d.name; moment = d.numbers.moment; asked = w.exchange.request; closes = closes }

  wanted_so : wanted_with ≡ wanted_of d w
  wanted_so i = record { name = d.name; moment = d.numbers.moment; asked = w.exchange.request; closes = closes_is i }

  no_reply : (reply : Message ResponseHead) → Some reply ≡ None → ⊥
  no_reply reply e = cc

  no_more : (reply : Message ResponseHead) → None ≡ Some reply → ⊥
  no_more reply e = cc

  one_reply : (one other : Message ResponseHead) → Some one ≡ Some other → one ≡ other
  one_reply one other e = cc

  replies_so : (chosen o : Option Stored) (reply : Message ResponseHead) → Some reply ≡ shared_reply wanted_with o
      → SendsReply {S = S} {H = H} w closes reply (at_desk before asked_with) (at_desk after new) → ReleasesHeld {S = S} {H = H} o w (at_desk before d) (at_desk after new)
  replies_so chosen None reply is sends = absurd (no_reply reply is)
  replies_so chosen (Some stored) reply is sends =
      let same : reply ≡ collapsed_reply (wanted_of d w) stored = one_reply reply (collapsed_reply wanted_with stored) is ∙ ap (λ (v : Wanted). collapsed_reply v stored) wanted_so in
      record {
        numbers = sends.replies.numbers;
        clients = λ connections k are is-idle.
            subst (λ (b : Bool). AreClients new.clients (cond b connections (insert connections w.exchange.connection k))) closes_is (sends.replies.clients connections k are is-idle);
        keeps = record { name = sends.replies.keeps.name; exchanges = sends.replies.keeps.exchanges; links = sends.replies.keeps.links };
        actions = sends.replies.actions
            ∙ (λ i. before ++ reply_actions w.number d.numbers.moment (is_head w.exchange.request.method) w.exchange.connection (closes_is i) (same i));
      }

  pub released_reply : (chosen : Option Stored) (reply : Message ResponseHead) → Finds w.exchange.target w.exchange.request.fields d.store chosen store
      → Some reply ≡ shared_reply wanted_with (shared d.numbers.moment chosen)
      → SendsReply {S = S} {H = H} w closes reply (at_desk before asked_with) (at_desk after new) → GivesReleased {S = S} {H = H} w (at_desk before d) (at_desk after new)
  released_reply chosen reply finds is sends = record {
    chosen = chosen;
    finds = subst (λ (h : Holdings). Finds w.exchange.target w.exchange.request.fields d.store chosen h) (sym sends.store) finds;
    does = replies_so chosen (shared d.numbers.moment chosen) reply is sends;
  }

  alone_so : (o : Option Stored) → None ≡ shared_reply wanted_with o → SendsAlone {S = S} {H = H} w (at_desk before asked_with) (at_desk after new)
      → ReleasesHeld {S = S} {H = H} o w (at_desk before d) (at_desk after new)
  alone_so (Some stored) is sends = absurd (no_more (collapsed_reply wanted_with stored) is)
  alone_so None is sends = record {
    name = sends.asks.name;
    numbers = sends.asks.numbers;
    clients = sends.asks.clients;
    exchanges = sends.asks.exchanges;
    links = sends.asks.links;
    actions = sends.asks.actions;
  }

  pub released_alone : (chosen : Option Stored) → Finds w.exchange.target w.exchange.request.fields d.store chosen store → None ≡ shared_reply wanted_with (shared d.numbers.moment chosen)
      → SendsAlone {S = S} {H = H} w (at_desk before asked_with) (at_desk after new) → GivesReleased {S = S} {H = H} w (at_desk before d) (at_desk after new)
  released_alone chosen finds is sends = record {
    chosen = chosen;
    finds = subst (λ (h : Holdings). Finds w.exchange.target w.exchange.request.fields d.store chosen h) (sym sends.store) finds;
    does = alone_so (shared d.numbers.moment chosen) is sends;
  }

-- ---- some, one after another

-- what was released so far, where some are left
pub record HaveReleased (S H : Type 0) (settings : CoreSettings) (s : State) (a : List Action) (numbers olds news : List ℕ) (z : List Action) (d : Desk S H) : Type 0 where
  pub state : State
  pub stands : DeskStandsFor {S = S} {H = H} settings d state
  pub runs : (left : List ℕ) → CanRelease (numbers ++ left) s
      → Adds a z (λ added. Run settings (map Releasing numbers) s added state) × CanRelease left state
      × (news ++ connections_of state.exchanges left ≡ olds ++ connections_of s.exchanges (numbers ++ left))

pub none_left : (numbers : List ℕ) (n : ℕ) → n ≡ length numbers → n ≡ 0 → numbers ≡ []
none_left [] n is none = refl
none_left (m ∷ numbers) n is none = absurd (omega (arith, is, none))

map_more : (numbers : List ℕ) (e : ℕ) → map Releasing (numbers ++ e ∷ []) ≡ map Releasing numbers ++ Releasing e ∷ []
map_more [] e = refl
map_more (n ∷ numbers) e = ap (λ (turns : List Turn). Releasing n ∷ turns) (map_more numbers e)

module _ (S H : Type 0) (settings : CoreSettings) (s : State) (a : List Action) (olds : List ℕ) where
  pub released_none : (d : Desk S H) → DeskStandsFor {S = S} {H = H} settings d s → HaveReleased S H settings s a [] olds olds a d
  released_none d stands = record {
    state = s;
    stands = stands;
    runs = λ left can. (([], sym (append-nil a), (refl, refl)), can, refl);
  }

  pub released_more : (numbers news newer : List ℕ) (e : ℕ) (y z : List Action) (d new : Desk S H) (so_far : HaveReleased S H settings s a numbers olds news y d)
      → GivesRelease {S = S} {H = H} (from_state settings so_far.state y) e news newer (at_desk z new) → HaveReleased S H settings s a (numbers ++ e ∷ []) olds newer z new
  released_more numbers news newer e y z d new so_far gives = record {
    state = gives.state;
    stands = gives.stands;
    runs = λ left can.
        let before = so_far.runs (e ∷ left) (subst (λ (ks : List ℕ). CanRelease ks s) (append_assoc numbers (e ∷ []) left) can) in
        let one = gives.takes before.1.wait.0 before.1.await in (
          (
            before.0.0 ++ one.0.0,
            one.0.1 ∙ ap (λ (l : List Action). l ++ one.0.0) before.0.1 ∙ append_assoc a before.0.0 one.0.0,
            subst (λ (turns : List Turn). Run settings turns s (before.0.0 ++ one.0.0) gives.state) (sym (map_more numbers e))
                (runs_on settings (map Releasing numbers) (Releasing e ∷ []) s so_far.state gives.state before.0.0 one.0.0 before.0.2
                (gives.state, one.0.0, [], one.0.2, sym (append-nil one.0.0), (refl, refl))),
          ),
          can_still settings e so_far.state one.0.0 gives.state one.0.2 left before.1,
          (λ i. one.1 i ++ connections_still settings e so_far.state one.0.0 gives.state one.0.2 left before.1 i)
              ∙ append_assoc news (listed (connection_of e so_far.state)) (connections_of so_far.state.exchanges left) ∙ before.2
              ∙ ap (λ (ks : List ℕ). olds ++ connections_of s.exchanges ks) (sym (append_assoc numbers (e ∷ []) left)),
        );
  }

  pub released_all : (numbers all news : List ℕ) (z : List Action) (d : Desk S H) → numbers ≡ all → HaveReleased S H settings s a numbers olds news z d
      → GivesReleases {S = S} {H = H} (from_state settings s a) all olds news (at_desk z d)
  released_all numbers all news z d whole so_far = subst (λ (ks : List ℕ). GivesReleases {S = S} {H = H} (from_state settings s a) ks olds news (at_desk z d)) whole (record {
    state = so_far.state;
    stands = so_far.stands;
    runs = λ can.
        let r = so_far.runs [] (subst (λ (ks : List ℕ). CanRelease ks s) (sym (append-nil numbers)) can) in
        (r.0, sym (append-nil news) ∙ r.2 ∙ ap (λ (ks : List ℕ). olds ++ connections_of s.exchanges ks) (append-nil numbers));
  })
