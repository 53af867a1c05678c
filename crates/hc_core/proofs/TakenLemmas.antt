-- An exchange that awaits its reply is taken out with its connection, or one of both isn't there.
use Rattle.std.proofs.Common.{◌≡◌, ℕ, Option, Some, None, refl, sym, ap, ◌∙◌}
use Rattle.std.specs.BTreeMap.{BTreeMap, get as kept_at}
use Rattle.std.specs.FinMap.{get, remove}
use Rattle.std.specs.Ordering.{nat_cmp}
use Rattle.hc_service.specs.declared.open.OpenExchange.{OpenExchange}
use Rattle.hc_service.specs.State.{Table, Connection}
use Rattle.hc_open.specs.declared.links.Client.{Client}
use Rattle.hc_open.specs.declared.open_exchanges.OpenExchanges.{OpenExchanges}
use Rattle.hc_core.specs.Ending.{IsMissing, IsTaken}
use Rattle.hc_open.specs.Links.{AreClients, AreExchanges, IsClient}
use Rattle.hc_open.proofs.TableLemmas.{found, found_none}

none_or_some : (o : Option OpenExchange) (x : OpenExchange) → o ≡ None → o ≡ Some x → ⊥
none_or_some o x none some = cc

one_of : (o : Option OpenExchange) (x y : OpenExchange) → o ≡ Some x → o ≡ Some y → x ≡ y
one_of o x y is other = some_one (sym is ∙ other)
  where
    some_one : Some x ≡ Some y → x ≡ y
    some_one e = cc

module _ (number : ℕ) (table : Table OpenExchange) (connections : Table Connection) (ys : OpenExchanges) (cs ds : BTreeMap ℕ Client) (are_clients : AreClients cs connections) where
  pub takes_both : (x : OpenExchange) (client : Client) → get table number ≡ Some x → kept_at nat_cmp cs x.connection ≡ Some client
      → AreExchanges ys (remove table number) → AreClients ds (remove connections x.connection)
      → IsTaken number (record { number = number; exchange = x; client = client }) table connections ys ds
  takes_both x client there kept exchanges_left clients_left =
      let k = found IsClient _ _ client (are_clients.at x.connection) kept in
      record {
        number_is = refl;
        connection = k.0;
        is_open = there;
        there = k.1;
        is_client = k.2;
        are_exchanges = exchanges_left;
        are_clients = clients_left;
      }

  pub misses_connection : (x : OpenExchange) → get table number ≡ Some x → kept_at nat_cmp cs x.connection ≡ None
      → AreExchanges ys (remove table number) → AreClients ds (remove connections x.connection)
      → IsMissing number table connections ys ds
  misses_connection x there none exchanges_left clients_left = record {
    no_connection = λ y is.
        ap (λ (z : OpenExchange). get connections z.connection) (sym (one_of (get table number) x y there is))
        ∙ found_none IsClient _ _ (are_clients.at x.connection) none;
    exchanges_left = remove table number;
    connections_left = remove connections x.connection;
    are_exchanges = exchanges_left;
    are_clients = clients_left;
  }

pub misses_exchange : (number : ℕ) (table : Table OpenExchange) (connections : Table Connection) (ys : OpenExchanges) (cs : BTreeMap ℕ Client) → AreClients cs connections
    → get table number ≡ None → AreExchanges ys table → IsMissing number table connections ys cs
misses_exchange number table connections ys cs are_clients none exchanges_left = record {
  no_connection = λ x is. absurd (none_or_some (get table number) x none is);
  exchanges_left = table;
  connections_left = connections;
  are_exchanges = exchanges_left;
  are_clients = are_clients;
}
