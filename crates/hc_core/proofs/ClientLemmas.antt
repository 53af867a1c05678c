-- Turns that change connections alone.
use Rattle.std.proofs.Common.{◌≡◌, ◌<◌, ℕ, List, [], true, Some, refl, ap, ◌∙◌}
use Rattle.std.specs.BTreeMap.{BTreeMap}
use Rattle.std.specs.FinMap.{get, insert, len}
use Rattle.hc_service.specs.declared.numbers.Numbers.{Numbers}
use Rattle.hc_service.specs.declared.settings.CoreSettings.{CoreSettings}
use Rattle.hc_service.specs.Numbers.{after_opening, is_later}
use Rattle.hc_service.specs.Serves.Turn.{Opening, ClientSending}
use Rattle.hc_service.specs.State.{State, Table, Connection, new_connection}
use Rattle.hc_service.specs.Turns.{after_client_octets}
use Rattle.hc_core.specs.declared.desk.Desk.{Desk}
use Rattle.hc_open.specs.declared.links.Client.{Client}
use Rattle.hc_open.specs.Links.{AreClients}
use Rattle.hc_core.specs.Standing.{GivesTurn, DeskStandsFor, from_state, at_desk}

module _ (S H : Type 0) (settings : CoreSettings) (d : Desk S H) (s : State) where
  -- the state with other connections
  abbrev pub connected : Table Connection → State
  connected connections = record {
    numbers = s.numbers;
    connections = connections;
    exchanges = s.exchanges;
    forwards = s.forwards;
    store = s.store;
  }

  -- what is kept with other connections is that of the state with them
  pub stands_connected : (clients : BTreeMap ℕ Client) (connections : Table Connection) → DeskStandsFor {S = S} {H = H} settings d s → AreClients clients connections
      → DeskStandsFor {S = S} {H = H} settings (record { alloc = d.alloc; incidents = d.incidents; name = d.name; numbers = d.numbers; clients = clients; exchanges = d.exchanges; links = d.links; store = d.store }) (connected connections)
  stands_connected clients connections stands are = record {
    name = stands.name;
    numbers = stands.numbers;
    clients = are;
    exchanges = stands.exchanges;
    links = stands.links;
    store = stands.store;
    in_time = stands.in_time;
  }

  pub opened : (c : ℕ) (numbers : Numbers) (clients : BTreeMap ℕ Client) → DeskStandsFor {S = S} {H = H} settings d s → is_later c s.numbers.connection ≡ true → len s.connections < s.numbers.room
      → numbers ≡ after_opening c d.numbers → AreClients clients (insert s.connections c new_connection)
      → GivesTurn {S = S} {H = H} (from_state settings s []) (Opening c) (at_desk [] (record { alloc = d.alloc; incidents = d.incidents; name = d.name; numbers = numbers; clients = clients; exchanges = d.exchanges; links = d.links; store = d.store }))
  opened c numbers clients stands later place is are = record {
    state = record {
      numbers = after_opening c s.numbers;
      connections = insert s.connections c new_connection;
      exchanges = s.exchanges;
      forwards = s.forwards;
      store = s.store;
    };
    stands = record {
      name = stands.name;
      numbers = is ∙ ap (after_opening c) stands.numbers;
      clients = are;
      exchanges = stands.exchanges;
      links = stands.links;
      store = stands.store;
      in_time = stands.in_time;
    };
    takes = (
      [],
      refl,
      record {
        later = later;
        has_place = place;
        numbers = refl;
        connections = refl;
        keeps = record { exchanges = refl; forwards = refl };
        store = refl;
        actions_are = refl;
      },
    );
  }

  pub heard : (c : ℕ) (octets : List ℕ) (k : Connection) (clients : BTreeMap ℕ Client) → DeskStandsFor {S = S} {H = H} settings d s → get s.connections c ≡ Some k
      → AreClients clients (insert s.connections c (after_client_octets octets k))
      → GivesTurn {S = S} {H = H} (from_state settings s []) (ClientSending c octets) (at_desk [] (record { alloc = d.alloc; incidents = d.incidents; name = d.name; numbers = d.numbers; clients = clients; exchanges = d.exchanges; links = d.links; store = d.store }))
  heard c octets k clients stands there are = record {
    state = connected (insert s.connections c (after_client_octets octets k));
    stands = stands_connected clients _ stands are;
    takes = (
      [],
      refl,
      record {
        connection = k;
        is_open = there;
        connections = refl;
        keeps = record { numbers = refl; exchanges = refl; forwards = refl; store = refl };
        actions_are = refl;
      },
    );
  }
