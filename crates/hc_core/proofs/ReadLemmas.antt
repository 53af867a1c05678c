-- Reading a connection as far as can be.
use Rattle.std.proofs.Common.{append_assoc, append-nil, ◌≡◌, ◌<◌, ℕ, ◌+◌, Bool, true, false, List, [], ◌∷◌, ◌++◌, length, nat_lt, Option, Some, None, Ok, refl, sym, ap, ◌∙◌, subst, arith}
use Rattle.std.proofs.lemmas.Bool.{ltb-false, ltb-true}
use Rattle.std.specs.BTreeMap.{BTreeMap, Updates, btree_map_len, get as kept_at}
use Rattle.std.specs.FinMap.{get, insert, remove}
use Rattle.std.specs.List.{AllByRecursion}
use Rattle.std.specs.Ordering.{nat_cmp}
use Rattle.hc_head.specs.declared.head.RequestHead.{RequestHead}
use Rattle.hc_head.specs.declared.head.Target.{Target}
use Rattle.hc_framing.specs.declared.message.Message.{Message}
use Rattle.hc_incoming.specs.declared.arrival.RequestArrival.{RequestArrival}
use Rattle.hc_incoming.specs.declared.requests.RequestReader.{RequestReader}
use Rattle.hc_incoming.specs.RequestReading.{GivesNext, HasRead, TakesRequest}
use Rattle.hc_incoming.specs.Requests.{IsRefused, IsUnfinished}
use Rattle.hc_replies.specs.Replies.{generated_reply}
use Rattle.hc_service.specs.declared.action.Action.{Action}
use Rattle.hc_service.specs.declared.numbers.Numbers.{Numbers}
use Rattle.hc_service.specs.declared.settings.CoreSettings.{CoreSettings}
use Rattle.hc_service.specs.Sending.{refusal_actions}
use Rattle.hc_service.specs.Serves.{IsQuietAt, IsQuietBy, Reads, Run, Turn}
use Rattle.hc_service.specs.Serves.Turn.{Asking, Dropping, Refusal}
use Rattle.hc_service.specs.State.{State, Connection}
use Rattle.hc_service.specs.Turns.{after_leaving, most_unread}
use Rattle.hc_core.specs.declared.desk.Desk.{Desk}
use Rattle.hc_open.specs.declared.links.Client.{Client}
use Rattle.hc_open.specs.Links.{AreClients, IsClient, IsTrimmed, IsUntouched}
use Rattle.hc_core.specs.Reading.{IsAsked}
use Rattle.hc_core.specs.Standing.{GivesReading, GivesTurn, DeskStandsFor, without_connection, from_state, at_desk}
use Rattle.hc_open.proofs.TableLemmas.{alike_taken, found, get_gone, get_put, gone_same, put_back, put_same}

some_one : {X : Type 0} (a b : X) → Some a ≡ Some b → a ≡ b
some_one a b e = cc

-- ---- what arrives

pub gives_as : (given known : RequestArrival) (r : RequestReader) (octets : List ℕ) → given ≡ known → GivesNext (Ok given) r octets → GivesNext (Ok known) r octets
gives_as given known r octets is gives = subst (λ (a : RequestArrival). GivesNext (Ok a) r octets) is gives

-- nothing whole, and all of it is read
pub still_idle : (client : Client) (reader : RequestReader) (k : Connection) → IsClient client k → k.exchange ≡ None → HasRead reader k.unread
    → IsClient (record { reader = reader; exchange = client.exchange; leaves = client.leaves }) k
still_idle client reader k is idle read = record {
  reads = read.agrees;
  untouched = subst (λ (e : Option ℕ). IsUntouched e reader k.unread) (sym idle) tt;
  exchange = is.exchange;
  leaves = is.leaves;
}

-- a whole request
pub asked_of : (client : Client) (reader : RequestReader) (k : Connection) (request : Message RequestHead) (target : Target) → IsClient client k → k.exchange ≡ None
    → (takes : TakesRequest reader k.unread request target)
    → IsAsked (record { reader = reader; exchange = client.exchange; leaves = client.leaves }) k request target takes.len
asked_of client reader k request target is idle takes = record { idle = idle; arrives = takes.is_request; behind = takes.behind; leaves = is.leaves }

-- ---- turns one after another

pub runs_on : (settings : CoreSettings) (turns more : List Turn) (s mid s' : State) (first rest : List Action) → Run settings turns s first mid → Run settings more mid rest s'
    → Run settings (turns ++ more) s (first ++ rest) s'
runs_on settings [] more s mid s' first rest run on =
    subst (λ (x : List Action × State). Run settings more x.1 (x.0 ++ rest) s') (λ i. (sym run.0 i, run.1 i)) on
runs_on settings (turn ∷ turns) more s mid s' first rest run on =
    (run.0, run.1, run.2 ++ rest, run.3, ap (λ (l : List Action). l ++ rest) run.4 ∙ append_assoc run.1 run.2 rest, runs_on settings turns more run.0 mid s' run.2 rest run.5 on)

all_on : (c : ℕ) (turns more : List Turn) → AllByRecursion (Reads c) turns → AllByRecursion (Reads c) more → AllByRecursion (Reads c) (turns ++ more)
all_on c [] more all on = on
all_on c (turn ∷ turns) more all on = (all.0, all_on c turns more all.1 on)

module _ (S H : Type 0) (settings : CoreSettings) (c : ℕ) where
  -- what is read from here on is read behind what was read so far
  pub reads_on : (d e : Desk S H) (so_far more : Bool) (s : State) (a b z : List Action) (first : GivesReading {S = S} {H = H} (from_state settings s a) c so_far (at_desk b d))
      → GivesReading {S = S} {H = H} (from_state settings first.state b) c more (at_desk z e) → GivesReading {S = S} {H = H} (from_state settings s a) c more (at_desk z e)
  reads_on d e so_far more s a b z first next = record {
    state = next.state;
    stands = next.stands;
    turns = first.turns ++ next.turns;
    reads = all_on c first.turns next.turns first.reads next.reads;
    runs = (
      first.runs.0 ++ next.runs.0,
      next.runs.1 ∙ ap (λ (l : List Action). l ++ next.runs.0) first.runs.1 ∙ append_assoc a first.runs.0 next.runs.0,
      runs_on settings first.turns next.turns s first.state next.state first.runs.0 next.runs.0 first.runs.2 next.runs.2,
    );
    quiet = next.quiet;
  }

  -- where it is known whether there may be more
  pub reads_as : (d : Desk S H) (given known : Bool) (s : State) (a z : List Action) → given ≡ known → GivesReading {S = S} {H = H} (from_state settings s a) c given (at_desk z d)
      → GivesReading {S = S} {H = H} (from_state settings s a) c known (at_desk z d)
  reads_as d given known s a z is gives = subst (λ (b : Bool). GivesReading {S = S} {H = H} (from_state settings s a) c b (at_desk z d)) is gives

  -- nothing was read yet
  pub reads_none : (d : Desk S H) (s : State) (items : List Action) → DeskStandsFor {S = S} {H = H} settings d s → GivesReading {S = S} {H = H} (from_state settings s items) c true (at_desk items d)
  reads_none d s items stands = record {
    state = s;
    stands = stands;
    turns = [];
    reads = tt;
    runs = ([], sym (append-nil items), (refl, refl));
    quiet = λ not. absurd (cc);
  }

  -- one turn reads
  pub reads_one : (d : Desk S H) (turn : Turn) (more : Bool) (s : State) (a z : List Action) (gives : GivesTurn {S = S} {H = H} (from_state settings s a) turn (at_desk z d)) → Reads c turn
      → (more ≡ false → IsQuietAt c gives.state) → GivesReading {S = S} {H = H} (from_state settings s a) c more (at_desk z d)
  reads_one d turn more s a z gives reads quiet = record {
    state = gives.state;
    stands = gives.stands;
    turns = turn ∷ [];
    reads = (reads, tt);
    runs = (gives.takes.0, gives.takes.1, (gives.state, gives.takes.0, [], gives.takes.2, sym (append-nil gives.takes.0), (refl, refl)));
    quiet = quiet;
  }

  -- a whole request was read, and there may be more
  pub reads_asking : (d : Desk S H) (s : State) (a z : List Action) → GivesTurn {S = S} {H = H} (from_state settings s a) (Asking c) (at_desk z d) → GivesReading {S = S} {H = H} (from_state settings s a) c true (at_desk z d)
  reads_asking d s a z gives = reads_one d (Asking c) true s a z gives refl (λ not. absurd (cc))

  module _ (d : Desk S H) (s : State) (k : Connection) (stands : DeskStandsFor {S = S} {H = H} settings d (without_connection c s)) (there : get s.connections c ≡ Some k) where
    -- a connection that is put back as it was
    pub reads_nothing : (clients : BTreeMap ℕ Client) (items : List Action) → AreClients clients (insert (remove s.connections c) c k) → IsQuietBy k.exchange k.unread
        → GivesReading {S = S} {H = H} (from_state settings s items) c false (at_desk items (record { alloc = d.alloc; incidents = d.incidents; name = d.name; numbers = d.numbers; clients = clients; exchanges = d.exchanges; links = d.links; store = d.store }))
    reads_nothing clients items are quiet = record {
      state = s;
      stands = record {
        name = stands.name;
        numbers = stands.numbers;
        clients = subst (AreClients clients) (put_back s.connections c k ∙ put_same s.connections c k there) are;
        exchanges = stands.exchanges;
        links = stands.links;
        store = stands.store;
        in_time = stands.in_time;
      };
      turns = [];
      reads = tt;
      runs = ([], sym (append-nil items), (refl, refl));
      quiet = λ _ q is. subst (λ (x : Connection). IsQuietBy x.exchange x.unread) (some_one k q (sym there ∙ is)) quiet;
    }

    -- what came is no whole request yet
    pub reads_unfinished : (clients : BTreeMap ℕ Client) (items : List Action) → AreClients clients (insert (remove s.connections c) c k) → k.exchange ≡ None → IsUnfinished k.unread
        → GivesReading {S = S} {H = H} (from_state settings s items) c false (at_desk items (record { alloc = d.alloc; incidents = d.incidents; name = d.name; numbers = d.numbers; clients = clients; exchanges = d.exchanges; links = d.links; store = d.store }))
    reads_unfinished clients items are idle unfinished =
        reads_nothing clients items are (subst (λ (e : Option ℕ). IsQuietBy e k.unread) (sym idle) unfinished)

    -- unread octets are dropped
    pub reads_dropping : (clients : BTreeMap ℕ Client) (items : List Action) (exchange : ℕ) → AreClients clients (insert (remove s.connections c) c (after_leaving k))
        → k.exchange ≡ Some exchange → most_unread < length k.unread
        → GivesReading {S = S} {H = H} (from_state settings s items) c false (at_desk items (record { alloc = d.alloc; incidents = d.incidents; name = d.name; numbers = d.numbers; clients = clients; exchanges = d.exchanges; links = d.links; store = d.store }))
    reads_dropping clients items exchange are awaits over =
        let left : State = record {
          numbers = s.numbers;
          connections = insert s.connections c (after_leaving k);
          exchanges = s.exchanges;
          forwards = s.forwards;
          store = s.store;
        } in
        reads_one _ (Dropping c) false s items items (record {
          state = left;
          stands = record {
            name = stands.name;
            numbers = stands.numbers;
            clients = subst (AreClients clients) (put_back s.connections c (after_leaving k)) are;
            exchanges = stands.exchanges;
            links = stands.links;
            store = stands.store;
            in_time = stands.in_time;
          };
          takes = (
            [],
            sym (append-nil items),
            record {
              connection = k;
              is_open = there;
              exchange = exchange;
              awaits = awaits;
              too_many = over;
              connections = refl;
              keeps = record { numbers = refl; exchanges = refl; forwards = refl; store = refl };
              actions_are = refl;
            },
          );
        }) refl
        (λ _ q is. subst (λ (x : Connection). IsQuietBy x.exchange x.unread) (some_one (after_leaving k) q (sym (get_put s.connections c (after_leaving k)) ∙ is))
        (subst (λ (e : Option ℕ). IsQuietBy e []) (sym awaits) (omega arith)))

    -- what came is refused
    pub reads_refusal : (status : ℕ) (a z : List Action) → k.exchange ≡ None → IsRefused k.unread status
        → z ≡ a ++ refusal_actions c (generated_reply status d.numbers.moment true)
        → GivesReading {S = S} {H = H} (from_state settings s a) c false (at_desk z d)
    reads_refusal status a z idle refused actions =
        reads_one d (Refusal c status) false s a z (record {
          state = without_connection c s;
          stands = stands;
          takes = (
            refusal_actions c (generated_reply status s.numbers.moment true),
            actions ∙ ap (λ (n : Numbers). a ++ refusal_actions c (generated_reply status n.moment true)) stands.numbers,
            record {
              connection = k;
              is_open = there;
              idle = idle;
              refused = refused;
              connections = refl;
              keeps = record { numbers = refl; exchanges = refl; forwards = refl; store = refl };
              actions_are = refl;
            },
          );
        }) refl
        (λ _ q is. absurd (none_some q (sym (get_gone s.connections c) ∙ is)))
      where
        none_some : (q : Connection) → None ≡ Some q → ⊥
        none_some q e = cc

  -- no such connection is open
  pub reads_absent : (d : Desk S H) (s : State) (clients : BTreeMap ℕ Client) (items : List Action) → DeskStandsFor {S = S} {H = H} settings d s → get s.connections c ≡ None
      → AreClients clients (remove s.connections c)
      → GivesReading {S = S} {H = H} (from_state settings s items) c false (at_desk items (record { alloc = d.alloc; incidents = d.incidents; name = d.name; numbers = d.numbers; clients = clients; exchanges = d.exchanges; links = d.links; store = d.store }))
  reads_absent d s clients items stands none are = record {
    state = s;
    stands = record {
      name = stands.name;
      numbers = stands.numbers;
      clients = subst (AreClients clients) (gone_same s.connections c none) are;
      exchanges = stands.exchanges;
      links = stands.links;
      store = stands.store;
      in_time = stands.in_time;
    };
    turns = [];
    reads = tt;
    runs = ([], sym (append-nil items), (refl, refl));
    quiet = λ _ q is. absurd (no_one q (sym none ∙ is));
  }
    where
      no_one : (q : Connection) → None ≡ Some q → ⊥
      no_one q e = cc

  -- a client that is taken out leaves what the state without it has
  pub taken_out : (d : Desk S H) (s : State) (clients : BTreeMap ℕ Client) → DeskStandsFor {S = S} {H = H} settings d s → AreClients clients (remove s.connections c)
      → DeskStandsFor {S = S} {H = H} settings (record { alloc = d.alloc; incidents = d.incidents; name = d.name; numbers = d.numbers; clients = clients; exchanges = d.exchanges; links = d.links; store = d.store })
      (without_connection c s)
  taken_out d s clients stands are = record {
    name = stands.name;
    numbers = stands.numbers;
    clients = are;
    exchanges = stands.exchanges;
    links = stands.links;
    store = stands.store;
    in_time = stands.in_time;
  }

  -- a client that was there is that of a connection
  pub taken_with : (d : Desk S H) (s : State) (client : Client) (clients : BTreeMap ℕ Client) → DeskStandsFor {S = S} {H = H} settings d s
      → Updates nat_cmp d.clients clients c None → Some client ≡ kept_at nat_cmp d.clients c → btree_map_len clients + 1 ≡ btree_map_len d.clients
      → (k : Connection) × (get s.connections c ≡ Some k) × IsClient client k
      × DeskStandsFor {S = S} {H = H} settings (record { alloc = d.alloc; incidents = d.incidents; name = d.name; numbers = d.numbers; clients = clients; exchanges = d.exchanges; links = d.links; store = d.store })
      (without_connection c s)
  taken_with d s client clients stands updates value many =
      let seen = found IsClient (kept_at nat_cmp d.clients c) (get s.connections c) client (stands.clients.at c) (sym value) in
      (seen.0, seen.1, seen.2, taken_out d s clients stands (alike_taken IsClient d.clients clients s.connections c (Some client) stands.clients updates value many))

  -- what a connection that was trimmed gives
  pub reads_trimmed : (d : Desk S H) (s : State) (k : Connection) (client : Client) (clients : BTreeMap ℕ Client) (items : List Action) (exchange : ℕ) (over : Bool)
      → DeskStandsFor {S = S} {H = H} settings d (without_connection c s) → get s.connections c ≡ Some k → k.exchange ≡ Some exchange
      → nat_lt most_unread (length k.unread) ≡ over → IsTrimmed over client k
      → ((q : Connection) → IsClient client q → AreClients clients (insert (remove s.connections c) c q))
      → GivesReading {S = S} {H = H} (from_state settings s items) c false (at_desk items (record { alloc = d.alloc; incidents = d.incidents; name = d.name; numbers = d.numbers; clients = clients; exchanges = d.exchanges; links = d.links; store = d.store }))
  reads_trimmed d s k client clients items exchange true stands there awaits over is put =
      reads_dropping d s k stands there clients items exchange (put (after_leaving k) is) awaits (ltb-true most_unread (length k.unread) over)
  reads_trimmed d s k client clients items exchange false stands there awaits over is put =
      reads_nothing d s k stands there clients items (put k is)
      (subst (λ (e : Option ℕ). IsQuietBy e k.unread) (sym awaits) (ltb-false most_unread (length k.unread) over))
