use Rattle.std.proofs.Common.{sym}
use Rattle.hc_open.proofs.WaitLemmas.{takes_exchange}
use Rattle.hc_open.proofs.open_exchanges.OpenExchanges.take.Goals as goal

pub returns : goal.returns
returns c = λ exchanges are.
    takes_exchange c.args.self.now exchanges c.args.number c.in_ok-exchange.exchange c.remove.new.self c.forget.new.self are (sym c.in_ok-exchange.ensures.value)
    c.in_ok-exchange.ensures.updates c.in_ok-exchange.ensures.value c.in_ok-exchange.ensures.len c.forget.ensures.by_number c.forget.ensures.waiting
