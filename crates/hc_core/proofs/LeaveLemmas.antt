-- The end of what a client sends, put together of its turns.
use Rattle.std.proofs.Common.{append-nil, ◌≡◌, ℕ, Bool, true, false, List, [], ◌∷◌, ◌++◌, ◌⊎◌, Option, Some, None, Result, Ok, Err, OnOk, refl, sym, ap, ◌∙◌, subst, inl, inr}
use Rattle.std.specs.BTreeMap.{BTreeMap}
use Rattle.std.specs.FinMap.{get, insert, remove}
use Rattle.hc_incoming.specs.RequestReading as requests
use Rattle.hc_incoming.specs.declared.troubles.Trouble.{Trouble}
use Rattle.hc_incoming.proofs.HeadLemmas.{refused_for}
use Rattle.hc_incoming.specs.Troubles.{refusal_status}
use Rattle.hc_incoming.specs.Requests.{HasRequest, IsCutOff, IsRefused, IsUnfinished}
use Rattle.hc_incoming.proofs.RequestLaws.{request_not_unfinished}
use Rattle.hc_replies.specs.Replies.{generated_reply}
use Rattle.hc_service.specs.declared.action.Action.{Action}
use Rattle.hc_service.specs.declared.action.Action.TheVariants.{CloseClient}
use Rattle.hc_service.specs.declared.numbers.Numbers.{Numbers}
use Rattle.hc_service.specs.declared.settings.CoreSettings.{CoreSettings}
use Rattle.hc_service.specs.Sending.{refusal_actions}
use Rattle.hc_service.specs.Serves.{OwesEnd, Run, Takes, Turn}
use Rattle.hc_service.specs.Serves.Turn.{Closing, Leaving, Refusal}
use Rattle.hc_service.specs.State.{State, Table, Connection}
use Rattle.hc_service.specs.Turns.{after_leaving}
use Rattle.hc_core.specs.declared.desk.Desk.{Desk}
use Rattle.hc_open.specs.declared.links.Client.{Client}
use Rattle.hc_open.specs.Links.{AreClients}
use Rattle.hc_core.specs.Standing.{GivesEnd, DeskStandsFor, without_connection, from_state, at_desk}
use Rattle.hc_open.proofs.TableLemmas.{put_back, put_same}

-- what holds where it succeeds
pub on_ok : {A E P Q : Type 0} (result : Result A E) → (P → Q) → OnOk result P → OnOk result Q
on_ok (Ok x) f p = f p
on_ok (Err e) f p = tt

-- what a reader says of the client's end
pub refused_at_end : (answer : Option Trouble) (trouble : Trouble) (octets : List ℕ) → answer ≡ Some trouble → requests.GivesEnd (Ok answer) octets → IsRefused octets (refusal_status trouble)
refused_at_end answer trouble octets is gives = refused_for octets trouble (subst (λ (o : Option Trouble). requests.GivesEnd (Ok o) octets) is gives)

-- no whole request is there where none had come, so it is cut off
pub cut_off_at_end : (answer : Option Trouble) (octets : List ℕ) → answer ≡ None → requests.GivesEnd (Ok answer) octets → IsUnfinished octets → IsCutOff octets
cut_off_at_end answer octets is gives unfinished = go (subst (λ (o : Option Trouble). requests.GivesEnd (Ok o) octets) is gives)
  where
    go : HasRequest octets ⊎ IsCutOff octets → IsCutOff octets
    go (inl has) = absurd (request_not_unfinished octets has.message has.target has.len has.is_request unfinished)
    go (inr cut) = cut

module _ (S H : Type 0) (settings : CoreSettings) (c : ℕ) where
  -- a client that is taken out leaves what the state without it has
  pub left_without : (d : Desk S H) (s : State) (clients : BTreeMap ℕ Client) → DeskStandsFor {S = S} {H = H} settings d s → AreClients clients (remove s.connections c)
      → DeskStandsFor {S = S} {H = H} settings (record { alloc = d.alloc; incidents = d.incidents; name = d.name; numbers = d.numbers; clients = clients; exchanges = d.exchanges; links = d.links; store = d.store })
      (without_connection c s)
  left_without d s clients stands are = record {
    name = stands.name;
    numbers = stands.numbers;
    clients = are;
    exchanges = stands.exchanges;
    links = stands.links;
    store = stands.store;
    in_time = stands.in_time;
  }

  module _ (d : Desk S H) (s : State) (k : Connection) (stands : DeskStandsFor {S = S} {H = H} settings d (without_connection c s)) (there : get s.connections c ≡ Some k) where
    -- the state with that connection
    abbrev with_connection : Connection → State
    with_connection q = record {
      numbers = s.numbers;
      connections = insert s.connections c q;
      exchanges = s.exchanges;
      forwards = s.forwards;
      store = s.store;
    }

    -- what is kept with other clients
    abbrev with_clients : BTreeMap ℕ Client → Desk S H
    with_clients clients = record { alloc = d.alloc; incidents = d.incidents; name = d.name; numbers = d.numbers; clients = clients; exchanges = d.exchanges; links = d.links; store = d.store }

    stands_with : (clients : BTreeMap ℕ Client) (connections : Table Connection) → AreClients clients connections
        → DeskStandsFor {S = S} {H = H} settings (with_clients clients)
        (record { numbers = s.numbers; connections = connections; exchanges = s.exchanges; forwards = s.forwards; store = s.store })
    stands_with clients connections are = record {
      name = stands.name;
      numbers = stands.numbers;
      clients = are;
      exchanges = stands.exchanges;
      links = stands.links;
      store = stands.store;
      in_time = stands.in_time;
    }

    -- nothing more was read of it: it is put back as it was
    pub ends_unread : (clients : BTreeMap ℕ Client) (items : List Action) → k.leaves ≡ true → AreClients clients (insert (remove s.connections c) c k)
        → GivesEnd {S = S} {H = H} (from_state settings s items) c k (at_desk items (record { alloc = d.alloc; incidents = d.incidents; name = d.name; numbers = d.numbers; clients = clients; exchanges = d.exchanges; links = d.links; store = d.store }))
    ends_unread clients items leaves are = record {
      state = s;
      stands = stands_with clients s.connections (subst (AreClients clients) (put_back s.connections c k ∙ put_same s.connections c k there) are);
      turns = [];
      owes = subst (λ (b : Bool). OwesEnd c b k.exchange []) (sym leaves) refl;
      runs = ([], sym (append-nil items), (refl, refl));
    }

    -- the turns that are owed where more was read
    owed : (exchange : Option ℕ) (turns : List Turn) → k.leaves ≡ false → k.exchange ≡ exchange → OwesEnd c false exchange turns → OwesEnd c k.leaves k.exchange turns
    owed exchange turns stays is owes = subst (λ (x : Bool × Option ℕ). OwesEnd c x.0 x.1 turns) (λ i. (sym stays i, sym is i)) owes

    alone : (turn : Turn) (actions : List Action) (s' : State) → Takes settings turn s actions s' → Run settings (turn ∷ []) s actions s'
    alone turn actions s' takes = (s', actions, [], takes, sym (append-nil actions), (refl, refl))

    -- what is unread behind the request is given up
    pub ends_busy : (clients : BTreeMap ℕ Client) (items : List Action) (exchange : ℕ) → k.leaves ≡ false → k.exchange ≡ Some exchange
        → AreClients clients (insert (remove s.connections c) c (after_leaving k))
        → GivesEnd {S = S} {H = H} (from_state settings s items) c k (at_desk items (record { alloc = d.alloc; incidents = d.incidents; name = d.name; numbers = d.numbers; clients = clients; exchanges = d.exchanges; links = d.links; store = d.store }))
    ends_busy clients items exchange stays awaits are = record {
      state = with_connection (after_leaving k);
      stands = stands_with clients (insert s.connections c (after_leaving k)) (subst (AreClients clients) (put_back s.connections c (after_leaving k)) are);
      turns = Leaving c ∷ [];
      owes = owed (Some exchange) (Leaving c ∷ []) stays awaits refl;
      runs = (
        [],
        sym (append-nil items),
        alone (Leaving c) [] (with_connection (after_leaving k)) (record {
          connection = k;
          is_open = there;
          exchange = exchange;
          awaits = awaits;
          connections = refl;
          keeps = record { numbers = refl; exchanges = refl; forwards = refl; store = refl };
          actions_are = refl;
        }),
      );
    }

    -- the connection closes
    pub ends_closing : (before after : List Action) → k.leaves ≡ false → k.exchange ≡ None → (IsUnfinished k.unread → IsCutOff k.unread) → after ≡ before ++ CloseClient c ∷ []
        → GivesEnd {S = S} {H = H} (from_state settings s before) c k (at_desk after d)
    ends_closing before after stays idle cut-off are = record {
      state = without_connection c s;
      stands = stands;
      turns = Closing c ∷ [];
      owes = owed None (Closing c ∷ []) stays idle (inl refl);
      runs = (
        CloseClient c ∷ [],
        are,
        alone (Closing c) (CloseClient c ∷ []) (without_connection c s) (record {
          connection = k;
          is_open = there;
          idle = idle;
          cut_off = cut-off;
          connections = refl;
          keeps = record { numbers = refl; exchanges = refl; forwards = refl; store = refl };
          actions_are = refl;
        }),
      );
    }

    -- what came is refused
    pub ends_refused : (status : ℕ) (before after : List Action) → k.leaves ≡ false → k.exchange ≡ None → IsRefused k.unread status
        → after ≡ before ++ refusal_actions c (generated_reply status d.numbers.moment true)
        → GivesEnd {S = S} {H = H} (from_state settings s before) c k (at_desk after d)
    ends_refused status before after stays idle refused are = record {
      state = without_connection c s;
      stands = stands;
      turns = Refusal c status ∷ [];
      owes = owed None (Refusal c status ∷ []) stays idle (inr (status, refl));
      runs = (
        refusal_actions c (generated_reply status s.numbers.moment true),
        are ∙ ap (λ (n : Numbers). before ++ refusal_actions c (generated_reply status n.moment true)) stands.numbers,
        alone (Refusal c status) (refusal_actions c (generated_reply status s.numbers.moment true)) (without_connection c s) (record {
          connection = k;
          is_open = there;
          idle = idle;
          refused = refused;
          connections = refl;
          keeps = record { numbers = refl; exchanges = refl; forwards = refl; store = refl };
          actions_are = refl;
        }),
      );
    }
