use Rattle.std.proofs.Common.{Some, None, sym}
use Rattle.hc_open.specs.Links.{IsClient}
use Rattle.hc_open.proofs.TableLemmas.{alike_taken}
use Rattle.hc_core.proofs.TakenLemmas.{misses_connection, misses_exchange, takes_both}
use Rattle.hc_core.proofs.answering.take_exchange.Goals as goal

pub returns-in_err-exchange : goal.returns-in_err-exchange
returns-in_err-exchange c = rw c.from_residual.ensures (λ table connections exchanges clients.
    let none = c.in_err-exchange.ensures table exchanges in
    misses_exchange c.args.number table connections c.take.new.self c.args.clients.now clients none.0 none.1)

pub returns-in_err-client : goal.returns-in_err-client
returns-in_err-client c = rw c.from_residual-in_err-client.ensures (λ table connections exchanges clients.
    let x = c.in_ok-exchange.exchange in
    let taken = c.in_ok-exchange.ensures table exchanges in
    misses_connection c.args.number table connections c.take.new.self c.args.clients.now c.remove.new.self clients x
    taken.0 (sym c.in_err-client.ensures.value) taken.1
    (alike_taken IsClient c.args.clients.now c.remove.new.self connections x.connection None clients c.in_err-client.ensures.updates c.in_err-client.ensures.value c.in_err-client.ensures.len))

pub returns : goal.returns
returns c = λ table connections exchanges clients.
    let x = c.in_ok-exchange.exchange in
    let taken = c.in_ok-exchange.ensures table exchanges in
    takes_both c.args.number table connections c.take.new.self c.args.clients.now c.remove.new.self clients x c.in_ok-client.client
    taken.0 (sym c.in_ok-client.ensures.value) taken.1
    (alike_taken IsClient c.args.clients.now c.remove.new.self connections x.connection (Some c.in_ok-client.client) clients c.in_ok-client.ensures.updates c.in_ok-client.ensures.value c.in_ok-client.ensures.len)
