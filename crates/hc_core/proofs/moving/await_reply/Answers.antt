use Rattle.hc_open.specs.Links.{IsClient}
use Rattle.hc_open.proofs.TableLemmas.{alike_put}
use Rattle.hc_open.proofs.LinkLemmas.{will_await}
use Rattle.hc_core.proofs.moving.await_reply.Goals as goal

pub returns-clause-exchanges : goal.returns-clause-exchanges
returns-clause-exchanges c = λ table are. c.in_ok-put.ensures table are

pub returns-clause-clients : goal.returns-clause-clients
returns-clause-clients c = λ connections k alike awaits.
    alike_put IsClient c.args.clients.now c.insert.new.self connections c.args.held.exchange.connection _ k c.in_ok-insert.field-0 alike (will_await c.args.held.client c.args.held.number k awaits)
    c.in_ok-insert.ensures.updates c.in_ok-insert.ensures.old c.in_ok-insert.ensures.len
