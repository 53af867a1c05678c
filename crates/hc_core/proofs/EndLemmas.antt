-- A forward ends: what that makes of each part.
use Rattle.std.proofs.Common.{append_assoc, ◌≡◌, ℕ, Bool, ◌||◌, cond, List, ◌++◌, Option, Some, None, refl, sym, ap, ◌∙◌, subst}
use Rattle.std.specs.BTreeMap.{BTreeMap}
use Rattle.std.specs.FinMap.{get, insert, remove}
use Rattle.std.specs.Option.{IsSome, option_map, option_and_then}
use Rattle.hc_head.specs.declared.head.ResponseHead.{ResponseHead}
use Rattle.hc_head.specs.Methods.{is_head}
use Rattle.hc_framing.specs.declared.message.Message.{Message}
use Rattle.hc_store.specs.Entries.{Holdings}
use Rattle.hc_service.specs.declared.action.Action.{Action}
use Rattle.hc_service.specs.declared.cases.Cause.{Cause}
use Rattle.hc_service.specs.declared.numbers.Numbers.{Numbers}
use Rattle.hc_service.specs.declared.open.ForwardKind.{ForwardKind}
use Rattle.hc_service.specs.declared.open.ForwardKind.TheVariants.{Plain}
use Rattle.hc_service.specs.declared.open.OpenExchange.{OpenExchange}
use Rattle.hc_service.specs.declared.open.OpenForward.{OpenForward}
use Rattle.hc_service.specs.declared.open.Purpose.{Purpose}
use Rattle.hc_service.specs.declared.open.Purpose.TheVariants as purpose
use Rattle.hc_service.specs.declared.settings.CoreSettings.{CoreSettings}
use Rattle.hc_service.specs.Answers.{Outcome, Renews}
use Rattle.hc_service.specs.Answers.Outcome.{Replies, GoesAnew}
use Rattle.hc_service.specs.Asking.{ends_connection}
use Rattle.hc_service.specs.Numbers.{noted, one_more, sent}
use Rattle.hc_service.specs.Reactions.{forward_anew}
use Rattle.hc_service.specs.Replying.{Wanted}
use Rattle.hc_service.specs.Sending.{reply_actions, send_actions}
use Rattle.hc_service.specs.Serves.{Turn, Takes}
use Rattle.hc_service.specs.State.{State, Awaited}
use Rattle.hc_service.specs.Turns.{Answers, Breaks, EndsBehind, EndsByFailure, EndsByResponse, EndsFor, Failure, HasFailure, IsAnswer, after_reply, answered_now, closes_behind, failed_now, replied, sent_forward, wanted_now}
use Rattle.hc_core.specs.declared.answering.HeldExchange.{HeldExchange}
use Rattle.hc_core.specs.declared.desk.Desk.{Desk}
use Rattle.hc_open.specs.declared.links.Client.{Client}
use Rattle.hc_open.specs.declared.open_exchanges.OpenExchanges.{OpenExchanges}
use Rattle.hc_open.specs.declared.open_links.OpenLinks.{OpenLinks}
use Rattle.hc_core.specs.Ending.{GivesForwardAnew, GivesReply, IsMissing, IsTaken, is_last, request_anew, wanted_of}
use Rattle.hc_open.specs.Links.{AreClients, AreExchanges, AreLinks}
use Rattle.hc_service.specs.Agreement.{HasExchange, IsReady}
use Rattle.hc_core.specs.Standing.{GivesEnding, DeskStandsFor, client_by, client_of, without_forward, from_state, at_desk}
use Rattle.hc_open.proofs.TableLemmas.{put_back, put_same}

-- what is there is something
there_is : {X : Type 0} (o : Option X) → IsSome o → (x : X) × (o ≡ Some x)
there_is None some = cc
there_is (Some x) some = (x, refl)

none_is_some : {X : Type 0} (o : Option X) → o ≡ None → IsSome o → ⊥
none_is_some None is some = cc
none_is_some (Some x) is some = cc

module _ (S H : Type 0) (settings : CoreSettings) (d : Desk S H) (s : State) (f : ℕ) (awaited : Awaited) (forward : OpenForward)
    (stands : DeskStandsFor {S = S} {H = H} settings d (without_forward f s)) (there : get s.forwards f ≡ Some awaited) (same : awaited.forward ≡ forward) where
  -- the connection of the exchange that the forward is for
  pub client_is : (p : Purpose) → forward.purpose ≡ p → client_of f s ≡ client_by s.exchanges p
  client_is p is =
      ap (option_and_then (λ (a : Awaited). client_by s.exchanges a.forward.purpose)) there
      ∙ ap (λ (x : OpenForward). client_by s.exchanges x.purpose) same ∙ ap (client_by s.exchanges) is

  -- ---- turns

  pub answers_by : (ended : Bool) (response : Message ResponseHead) (renewed : Holdings) (p : Purpose) (added : List Action) (s' : State) → forward.purpose ≡ p
      → IsAnswer ended (is_head forward.request.method) awaited.received response
      → Renews forward s.numbers.moment (one_more s.numbers.records) response.head s.store renewed
      → EndsByResponse p settings (answered_now f forward response renewed s) s added s'
      → Answers settings f ended s added s'
  answers_by ended response renewed p added s' is arrives renews ends =
      let all = subst
      (λ (x : OpenForward). IsAnswer ended (is_head x.request.method) awaited.received response
      × Renews x s.numbers.moment (one_more s.numbers.records) response.head s.store renewed
      × EndsByResponse x.purpose settings (answered_now f x response renewed s) s added s')
      (sym same)
      (arrives, renews, subst (λ (q : Purpose). EndsByResponse q settings (answered_now f forward response renewed s) s added s') (sym is) ends) in
      record { awaited = awaited; is_open = there; response = response; arrives = all.0; renewed = renewed; renews = all.1; ends = all.2 }

  pub breaks_by : (how : Failure) (p : Purpose) (added : List Action) (s' : State) → forward.purpose ≡ p
      → HasFailure how (is_head forward.request.method) awaited.received
      → EndsByFailure p settings (failed_now f forward.target how s) s added s'
      → Breaks settings f how s added s'
  breaks_by how p added s' is fails ends =
      let all = subst
      (λ (x : OpenForward). HasFailure how (is_head x.request.method) awaited.received
      × EndsByFailure x.purpose settings (failed_now f x.target how s) s added s')
      (sym same)
      (fails, subst (λ (q : Purpose). EndsByFailure q settings (failed_now f forward.target how s) s added s') (sym is) ends) in
      record { awaited = awaited; is_open = there; fails = all.0; ends = all.1 }

  -- ---- once the end has its record

  -- what the end makes of the parts before the exchange that it was for is looked for
  pub record HasEnded (first before after : List Action) (mid : Desk S H) : Type 0 where
    pub name : mid.name ≡ d.name
    pub numbers : mid.numbers ≡ noted d.numbers
    pub links : mid.links ≡ d.links
    pub actions : after ≡ before ++ first

  numbers_ended : (first before after : List Action) (mid : Desk S H) → HasEnded first before after mid → mid.numbers ≡ noted s.numbers
  numbers_ended first before after mid ended = ended.numbers ∙ ap noted stands.numbers

  links_ended : (first before after : List Action) (mid : Desk S H) → HasEnded first before after mid → AreLinks mid.links (remove s.forwards f)
  links_ended first before after mid ended = subst (λ (l : OpenLinks). AreLinks l (remove s.forwards f)) (sym ended.links) stands.links

  -- it is for no exchange
  pub ends_behind : (turn : Turn) (first before after : List Action) (mid : Desk S H) → HasEnded first before after mid → mid.clients ≡ d.clients → mid.exchanges ≡ d.exchanges
      → forward.purpose ≡ purpose.Background
      → ((added : List Action) (s' : State) → s'.store ≡ mid.store → EndsBehind f first s added s' → Takes settings turn s added s')
      → GivesEnding {S = S} {H = H} (from_state settings s before) turn f None (at_desk after mid)
  ends_behind turn first before after mid ended clients exchanges is takes =
      let left : State = record {
        numbers = noted s.numbers;
        connections = s.connections;
        exchanges = s.exchanges;
        forwards = remove s.forwards f;
        store = mid.store;
      } in
      record {
        state = left;
        stands = record {
          name = ended.name ∙ stands.name;
          numbers = numbers_ended first before after mid ended;
          clients = subst (λ (x : BTreeMap ℕ Client). AreClients x s.connections) (sym clients) stands.clients;
          exchanges = subst (λ (x : OpenExchanges). AreExchanges x s.exchanges) (sym exchanges) stands.exchanges;
          links = links_ended first before after mid ended;
          store = refl;
          in_time = stands.in_time;
        };
        takes = λ ready. (
          (first, ended.actions, takes first left refl (record { numbers = refl; keeps = record { connections = refl; exchanges = refl }; forwards = refl; actions_are = refl })),
          sym (client_is purpose.Background is),
        );
      }

  module _ (e : ℕ) (why : Cause) (kind : ForwardKind) (is : forward.purpose ≡ purpose.Reply e why kind) where
    -- the exchange that it is for isn't there, so that the forward can't end
    pub ends_missing : (turn : Turn) (first before after : List Action) (mid : Desk S H) → HasEnded first before after mid
        → IsMissing e s.exchanges s.connections mid.exchanges mid.clients → GivesEnding {S = S} {H = H} (from_state settings s before) turn f None (at_desk after mid)
    ends_missing turn first before after mid ended missing = record {
      state = record {
        numbers = noted s.numbers;
        connections = missing.connections_left;
        exchanges = missing.exchanges_left;
        forwards = remove s.forwards f;
        store = mid.store;
      };
      stands = record {
        name = ended.name ∙ stands.name;
        numbers = numbers_ended first before after mid ended;
        clients = missing.are_clients;
        exchanges = missing.are_exchanges;
        links = links_ended first before after mid ended;
        store = refl;
        in_time = stands.in_time;
      };
      takes = λ ready. absurd (never ready);
    }
      where
        never : IsReady s → ⊥
        never ready =
            let awaits = there_is (get s.exchanges e)
            (subst (λ (p : Purpose). HasExchange s.exchanges p) (ap (λ (x : OpenForward). x.purpose) same ∙ is) (ready.exchanges f awaited there)) in
            none_is_some (get s.connections awaits.0.connection) (missing.no_connection awaits.0 awaits.1)
            (subst IsSome (sym (ready.connections e awaits.0 awaits.1).is_open) refl)

    -- the exchange that it is for gets its reply
    pub ends_with_reply : (turn : Turn) (decides : Wanted → Outcome → Holdings → Type 0) (first before after last : List Action) (mid new : Desk S H) (w : HeldExchange)
        → HasEnded first before after mid → IsTaken e w s.exchanges s.connections mid.exchanges mid.clients
        → GivesReply {S = S} {H = H} w (λ reply old fresh. decides (wanted_of mid w) (Replies reply) fresh) (at_desk after mid) (at_desk last new)
        → ((added : List Action) (s' : State) → EndsFor settings decides (record { forward = f; exchange = e; why = why; first = first }) s added s' → Takes settings turn s added s')
        → GivesEnding {S = S} {H = H} (from_state settings s before) turn f (Some w.exchange.connection) (at_desk last new)
    ends_with_reply turn decides first before after last mid new w ended taken gives takes =
        let x = w.exchange in
        let k = taken.connection in
        let n : mid.numbers ≡ noted s.numbers = numbers_ended first before after mid ended in
        let m : mid.numbers.moment ≡ s.numbers.moment = ap (λ (y : Numbers). y.moment) n in
        let b : is_last mid.numbers w ≡ closes_behind x.request k s.numbers = λ i. ends_connection x.request || (taken.is_client.leaves i || (n i).closing) in
        let name : mid.name ≡ settings.name = ended.name ∙ stands.name in
        let wanted : wanted_of mid w ≡ wanted_now settings s x.request k =
        λ i. record { name = name i; moment = m i; asked = x.request; closes = b i } in
        let reply = gives.reply in
        let left : State = record {
          numbers = noted (noted s.numbers);
          connections = replied (closes_behind x.request k s.numbers) x.connection k.unread k s.connections;
          exchanges = remove s.exchanges e;
          forwards = remove s.forwards f;
          store = new.store;
        } in
        let replies : List Action = reply_actions e s.numbers.moment (is_head x.request.method) x.connection (closes_behind x.request k s.numbers) reply in
        record {
          state = left;
          stands = record {
            name = gives.replies.keeps.name ∙ name;
            numbers = gives.replies.numbers ∙ ap noted n;
            clients = subst (AreClients new.clients)
                (λ i. cond (b i) (remove s.connections x.connection) (put_back s.connections x.connection (after_reply k.unread k) i))
                (gives.replies.clients (remove s.connections x.connection) (after_reply k.unread k) taken.are_clients
                (record { reads = taken.is_client.reads; exchange = refl; leaves = taken.is_client.leaves }));
            exchanges = subst (λ (y : OpenExchanges). AreExchanges y (remove s.exchanges e)) (sym gives.replies.keeps.exchanges) taken.are_exchanges;
            links = subst (λ (y : OpenLinks). AreLinks y (remove s.forwards f)) (sym gives.replies.keeps.links) (links_ended first before after mid ended);
            store = refl;
            in_time = stands.in_time;
          };
          takes = λ ready. (
            (
              first ++ replies,
              gives.replies.actions ∙ ap (λ (l : List Action). l ++ reply_actions w.number mid.numbers.moment (is_head x.request.method) x.connection (is_last mid.numbers w) reply) ended.actions
                  ∙ append_assoc before first _ ∙ (λ i. before ++ (first ++ reply_actions (taken.number_is i) (m i) (is_head x.request.method) x.connection (b i) reply)),
              takes (first ++ replies) left (record {
                exchange = x;
                awaits = taken.is_open;
                connection = k;
                is_open = taken.there;
                outcome = Replies reply;
                decided = subst (λ (y : Wanted). decides y (Replies reply) new.store) wanted gives.decided;
                does = record { numbers = refl; connections = refl; exchanges = refl; forwards = refl; actions_are = refl };
              }),
            ),
            sym (client_is (purpose.Reply e why kind) is ∙ ap (option_map (λ (y : OpenExchange). y.connection)) taken.is_open),
          );
        }

    -- the request of the exchange that it is for goes to the origin anew
    pub ends_with_forward : (turn : Turn) (decides : Wanted → Outcome → Holdings → Type 0) (first before after last : List Action) (mid new : Desk S H) (w : HeldExchange)
        → HasEnded first before after mid → IsTaken e w s.exchanges s.connections mid.exchanges mid.clients
        → GivesForwardAnew {S = S} {H = H} w why (λ old fresh. decides (wanted_of mid w) GoesAnew fresh) (at_desk after mid) (at_desk last new)
        → ((added : List Action) (s' : State) → EndsFor settings decides (record { forward = f; exchange = e; why = why; first = first }) s added s' → Takes settings turn s added s')
        → GivesEnding {S = S} {H = H} (from_state settings s before) turn f (Some w.exchange.connection) (at_desk last new)
    ends_with_forward turn decides first before after last mid new w ended taken gives takes =
        let x = w.exchange in
        let k = taken.connection in
        let n : mid.numbers ≡ noted s.numbers = numbers_ended first before after mid ended in
        let m : mid.numbers.moment ≡ s.numbers.moment = ap (λ (y : Numbers). y.moment) n in
        let next : one_more mid.numbers.forward ≡ one_more s.numbers.forward = ap (λ (y : Numbers). one_more y.forward) n in
        let b : is_last mid.numbers w ≡ closes_behind x.request k s.numbers = λ i. ends_connection x.request || (taken.is_client.leaves i || (n i).closing) in
        let name : mid.name ≡ settings.name = ended.name ∙ stands.name in
        let wanted : wanted_of mid w ≡ wanted_now settings s x.request k =
        λ i. record { name = name i; moment = m i; asked = x.request; closes = b i } in
        let request = forward_anew settings.name x.target x.request in
        let left : State = record {
          numbers = sent (noted s.numbers);
          connections = s.connections;
          exchanges = s.exchanges;
          forwards = insert (remove s.forwards f) (one_more s.numbers.forward)
              (sent_forward request.head x.target s.numbers.moment (purpose.Reply e why Plain));
          store = new.store;
        } in
        let sends : List Action = send_actions (one_more s.numbers.forward) s.numbers.moment (Some e) request in
        record {
          state = left;
          stands = record {
            name = gives.asks.name ∙ name;
            numbers = gives.asks.numbers ∙ ap sent n;
            clients = subst (AreClients new.clients) (put_back s.connections x.connection k ∙ put_same s.connections x.connection k taken.there)
                (gives.asks.clients (remove s.connections x.connection) k taken.are_clients taken.is_client);
            exchanges = subst (AreExchanges new.exchanges)
                (ap (λ (q : ℕ). insert (remove s.exchanges e) q x) taken.number_is ∙ put_back s.exchanges e x ∙ put_same s.exchanges e x taken.is_open)
                (gives.asks.exchanges (remove s.exchanges e) taken.are_exchanges);
            links = subst (AreLinks new.links)
                (λ i. insert (remove s.forwards f) (next i)
                (sent_forward (forward_anew (name i) x.target x.request).head x.target (m i) (purpose.Reply (taken.number_is i) why Plain)))
                (gives.asks.links (remove s.forwards f) (links_ended first before after mid ended));
            store = refl;
            in_time = stands.in_time;
          };
          takes = λ ready. (
            (
              first ++ sends,
              gives.asks.actions ∙ ap (λ (l : List Action). l ++ send_actions (one_more mid.numbers.forward) mid.numbers.moment (Some w.number) (request_anew mid w)) ended.actions
                  ∙ append_assoc before first _ ∙ (λ i. before ++ (first ++ send_actions (next i) (m i) (Some (taken.number_is i)) (forward_anew (name i) x.target x.request))),
              takes (first ++ sends) left (record {
                exchange = x;
                awaits = taken.is_open;
                connection = k;
                is_open = taken.there;
                outcome = GoesAnew;
                decided = subst (λ (y : Wanted). decides y GoesAnew new.store) wanted gives.decided;
                does = record { numbers = refl; keeps = record { connections = refl; exchanges = refl }; forwards = refl; actions_are = refl };
              }),
            ),
            sym (client_is (purpose.Reply e why kind) is ∙ ap (option_map (λ (y : OpenExchange). y.connection)) taken.is_open),
          );
        }
