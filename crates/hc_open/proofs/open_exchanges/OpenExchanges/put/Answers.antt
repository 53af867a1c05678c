use Rattle.hc_open.proofs.WaitLemmas.{puts_exchange}
use Rattle.hc_open.proofs.open_exchanges.OpenExchanges.put.Goals as goal

pub returns : goal.returns
returns c = λ exchanges are.
    puts_exchange c.take.new.self c.note.new.self exchanges c.args.number c.args.exchange c.take.result c.insert.new.self c.in_ok-insert.field-0
    (c.take.ensures exchanges are) c.in_ok-note.ensures.by_number c.in_ok-note.ensures.waiting
    c.in_ok-insert.ensures.updates c.in_ok-insert.ensures.old c.in_ok-insert.ensures.len
