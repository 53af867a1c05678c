-- Octets come from the origin: what that gives with what they make of the forward.
use Rattle.std.proofs.Common.{append-nil, ◌≡◌, ℕ, Bool, true, false, cond, List, [], ◌∷◌, ◌++◌, Option, Some, None, refl, sym, ap, ◌∙◌, subst, inl, inr}
use Rattle.std.specs.BTreeMap.{BTreeMap}
use Rattle.std.specs.Cmp.{nat_cmp_total}
use Rattle.std.specs.FinMap.{get, insert, remove, get-insert}
use Rattle.std.specs.Option.{option_and_then}
use Rattle.std.specs.Ordering.{nat_cmp, eq_by_cmp}
use Rattle.hc_head.specs.Methods.{is_head}
use Rattle.hc_incoming.specs.Responses.{IsUnfinished}
use Rattle.hc_service.specs.declared.action.Action.{Action}
use Rattle.hc_service.specs.declared.open.OpenExchange.{OpenExchange}
use Rattle.hc_service.specs.declared.settings.CoreSettings.{CoreSettings}
use Rattle.hc_service.specs.Serves.{Run, Turn}
use Rattle.hc_service.specs.Serves.Turn.{OriginSending, Answering, Failing}
use Rattle.hc_service.specs.State.{State, Awaited, exchange_for}
use Rattle.hc_service.specs.Turns.{OriginSends, after_origin_octets}
use Rattle.hc_service.specs.Turns.Failure.{IsBroken}
use Rattle.hc_core.specs.declared.desk.Desk.{Desk}
use Rattle.hc_open.specs.declared.links.Link.{Link}
use Rattle.hc_open.specs.declared.open_links.OpenLinks.{OpenLinks}
use Rattle.hc_open.specs.Groups.{AreGrouped}
use Rattle.hc_open.specs.Links.{AreBehind, AreLinks, IsLink, by_target, is_joinable_for}
use Rattle.hc_open.specs.Tables.{AreAlike}
use Rattle.hc_service.specs.Agreement.{HasExchange, IsReady}
use Rattle.hc_core.specs.Standing.{GivesEnding, GivesReceiving, DeskStandsFor, client_by, client_of, without_forward, from_state, at_desk}
use Rattle.hc_core.specs.declared.receiving.ForwardStage.TheVariants.{HasEnded, IsOpen}
use Rattle.hc_core.specs.Waiting.{CanFinish}
use Rattle.hc_core.proofs.WaitingLemmas.{answer_finishes, failure_finishes}
use Rattle.hc_open.proofs.BehindLemmas.{received_behind, received_joinable}
use Rattle.hc_open.proofs.TableLemmas.{get_put, put_back, remove_put}

one_is : {X : Type 0} (a b : X) → Some a ≡ Some b → a ≡ b
one_is a b e = cc

module _ (S H : Type 0) (settings : CoreSettings) (d : Desk S H) (s : State) (f : ℕ) (octets : List ℕ) (awaited : Awaited)
    (stands : DeskStandsFor {S = S} {H = H} settings d s) (there : get s.forwards f ≡ Some awaited) where
  -- the state once the octets have come
  abbrev pub state_received : State
  state_received = record {
    numbers = s.numbers;
    connections = s.connections;
    exchanges = s.exchanges;
    forwards = insert s.forwards f (after_origin_octets octets awaited);
    store = s.store;
  }

  sends : OriginSends f octets s [] state_received
  sends = record {
    awaited = awaited;
    is_open = there;
    forwards = refl;
    keeps = record { numbers = refl; connections = refl; exchanges = refl; store = refl };
    actions_are = refl;
  }

  pub received_there : get state_received.forwards f ≡ Some (after_origin_octets octets awaited)
  received_there = get_put s.forwards f (after_origin_octets octets awaited)

  -- the link stays, of the same purpose
  pub received_links : (by_number : BTreeMap ℕ Link) → AreAlike IsLink by_number (insert (remove s.forwards f) f (after_origin_octets octets awaited))
      → AreLinks (record { by_number = by_number; behind = d.links.behind; joinable = d.links.joinable }) (insert (remove s.forwards f) f (after_origin_octets octets awaited))
  received_links by_number are = record {
    by_number = are;
    behind = subst (AreBehind d.links.behind) (sym (put_back s.forwards f (after_origin_octets octets awaited)))
        (received_behind d.links.behind s.forwards f awaited (after_origin_octets octets awaited) stands.links.behind there refl);
    joinable = subst (AreGrouped by_target is_joinable_for d.links.joinable.sets) (sym (put_back s.forwards f (after_origin_octets octets awaited)))
        (received_joinable d.links.joinable.sets s.forwards f awaited (after_origin_octets octets awaited) stands.links.joinable there refl);
  }

  -- without its link, what is kept is that of this state without the forward
  pub received_without : (links : OpenLinks) → AreLinks links (remove s.forwards f)
      → DeskStandsFor {S = S} {H = H} settings (record { alloc = d.alloc; incidents = d.incidents; name = d.name; numbers = d.numbers; clients = d.clients; exchanges = d.exchanges; links = links; store = d.store })
      (without_forward f state_received)
  received_without links are = record {
    name = stands.name;
    numbers = stands.numbers;
    clients = stands.clients;
    exchanges = stands.exchanges;
    links = subst (AreLinks links) (sym (remove_put s.forwards f (after_origin_octets octets awaited))) are;
    store = stands.store;
    in_time = stands.in_time;
  }

  -- the forwards have the same purposes
  pub received_ready : IsReady s → IsReady state_received
  received_ready ready = record {
    exchanges = λ g a is. each g a (eq_by_cmp nat_cmp g f) refl
        (sym (get-insert nat_cmp_total s.forwards f (after_origin_octets octets awaited) g) ∙ is);
    alone = λ g e a x is for_it there. single g e a x (eq_by_cmp nat_cmp g f) refl
        (sym (get-insert nat_cmp_total s.forwards f (after_origin_octets octets awaited) g) ∙ is) for_it there;
    connections = ready.connections;
  }
    where
      single : (g e : ℕ) (a : Awaited) (x : OpenExchange) (b : Bool) → eq_by_cmp nat_cmp g f ≡ b → cond (eq_by_cmp nat_cmp g f) (Some (after_origin_octets octets awaited)) (get s.forwards g) ≡ Some a
          → exchange_for a.forward.purpose ≡ Some e → get s.exchanges e ≡ Some x → x.waits_for ≡ None
      single g e a x true test is for_it there_is =
          ready.alone f e awaited x there
          (ap (λ (y : Awaited). exchange_for y.forward.purpose)
          (one_is (after_origin_octets octets awaited) a (sym (ap (λ (b : Bool). cond b (Some (after_origin_octets octets awaited)) (get s.forwards g)) test) ∙ is)) ∙ for_it) there_is
      single g e a x false test is for_it there_is =
          ready.alone g e a x (sym (ap (λ (b : Bool). cond b (Some (after_origin_octets octets awaited)) (get s.forwards g)) test) ∙ is) for_it there_is

      each : (g : ℕ) (a : Awaited) (b : Bool) → eq_by_cmp nat_cmp g f ≡ b → cond (eq_by_cmp nat_cmp g f) (Some (after_origin_octets octets awaited)) (get s.forwards g) ≡ Some a
          → HasExchange s.exchanges a.forward.purpose
      each g a true test is =
          subst (λ (x : Awaited). HasExchange s.exchanges x.forward.purpose)
          (one_is (after_origin_octets octets awaited) a (sym (ap (λ (b : Bool). cond b (Some (after_origin_octets octets awaited)) (get s.forwards g)) test) ∙ is))
          (ready.exchanges f awaited there)
      each g a false test is = ready.exchanges g a (sym (ap (λ (b : Bool). cond b (Some (after_origin_octets octets awaited)) (get s.forwards g)) test) ∙ is)

  same_client : client_of f state_received ≡ client_of f s
  same_client =
      ap (option_and_then (λ (a : Awaited). client_by s.exchanges a.forward.purpose)) received_there
      ∙ sym (ap (option_and_then (λ (a : Awaited). client_by s.exchanges a.forward.purpose)) there)

  received_then : (turn : Turn) (added : List Action) (s' : State) → Run settings (turn ∷ []) state_received added s' → Run settings (OriginSending f octets ∷ turn ∷ []) s added s'
  received_then turn added s' run = (state_received, [], added, sends, refl, run)

  -- nothing more yet
  pub receives_on : (links : OpenLinks) (items : List Action) → AreLinks links (insert (remove s.forwards f) f (after_origin_octets octets awaited))
      → IsUnfinished (is_head awaited.forward.request.method) (awaited.received ++ octets)
      → GivesReceiving {S = S} {H = H} (from_state settings s items) f octets IsOpen (at_desk items (record { alloc = d.alloc; incidents = d.incidents; name = d.name; numbers = d.numbers; clients = d.clients; exchanges = d.exchanges; links = links; store = d.store }))
  receives_on links items are unfinished = record {
    state = state_received;
    stands = record {
      name = stands.name;
      numbers = stands.numbers;
      clients = stands.clients;
      exchanges = stands.exchanges;
      links = subst (AreLinks links) (put_back s.forwards f (after_origin_octets octets awaited)) are;
      store = stands.store;
      in_time = stands.in_time;
    };
    does = λ ready. (
      [],
      sym (append-nil items),
      (
        (state_received, [], [], sends, refl, (refl, refl)),
        λ a is. subst (λ (x : Awaited). IsUnfinished (is_head x.forward.request.method) x.received) (one_is (after_origin_octets octets awaited) a (sym received_there ∙ is)) unfinished,
      ),
    );
  }

  -- the same exchanges are open
  finish_seen : (s' : State) → CanFinish f state_received s' → CanFinish f s s'
  finish_seen s' finish = record { can = finish.can; same = finish.same; there = finish.there }

  -- a response ends the forward
  pub receives_answer : (client : Option ℕ) (a z : List Action) (e : Desk S H) → GivesEnding {S = S} {H = H} (from_state settings state_received a) (Answering f false) f client (at_desk z e)
      → GivesReceiving {S = S} {H = H} (from_state settings s a) f octets (HasEnded client) (at_desk z e)
  receives_answer client a z e gives = record {
    state = gives.state;
    stands = gives.stands;
    does = λ ready.
        let t = gives.takes (received_ready ready) in (
          t.0.0,
          t.0.1,
          (
            inl (received_then (Answering f false) t.0.0 gives.state (gives.state, t.0.0, [], t.0.2, sym (append-nil t.0.0), (refl, refl))),
            t.1 ∙ same_client,
            finish_seen gives.state (answer_finishes f state_received gives.state settings t.0.0 (received_ready ready) false t.0.2),
          ),
        );
  }

  -- a fault ends it
  pub receives_failure : (client : Option ℕ) (a z : List Action) (e : Desk S H) → GivesEnding {S = S} {H = H} (from_state settings state_received a) (Failing f IsBroken) f client (at_desk z e)
      → GivesReceiving {S = S} {H = H} (from_state settings s a) f octets (HasEnded client) (at_desk z e)
  receives_failure client a z e gives = record {
    state = gives.state;
    stands = gives.stands;
    does = λ ready.
        let t = gives.takes (received_ready ready) in (
          t.0.0,
          t.0.1,
          (
            inr (received_then (Failing f IsBroken) t.0.0 gives.state (gives.state, t.0.0, [], t.0.2, sym (append-nil t.0.0), (refl, refl))),
            t.1 ∙ same_client,
            finish_seen gives.state (failure_finishes f state_received gives.state settings t.0.0 (received_ready ready) IsBroken t.0.2),
          ),
        );
  }
