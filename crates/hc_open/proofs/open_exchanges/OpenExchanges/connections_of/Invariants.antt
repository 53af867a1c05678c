use Rattle.std.proofs.Common.{◌≡◌, ◌++◌, drop}
use Rattle.hc_service.specs.declared.open.OpenExchange.{OpenExchange}
use Rattle.hc_service.specs.Serves.{connections_of}
use Rattle.hc_service.specs.State.{Table}
use Rattle.hc_open.specs.Links.{AreExchanges}
use Rattle.hc_open.proofs.open_exchanges.OpenExchanges.connections_of.Given as goal

-- the connections so far, and those of the exchanges that are left
abbrev pub invariant-loop-number : goal.invariant-loop-number
invariant-loop-number l = (exchanges : Table OpenExchange) → AreExchanges l.self exchanges
    → l.connections.items ++ connections_of exchanges (drop l.number-index l.numbers) ≡ connections_of exchanges l.numbers
