use Rattle.std.specs.FinMap.{insert}
use Rattle.hc_open.specs.Links.{IsClient}
use Rattle.hc_open.proofs.TableLemmas.{alike_put}
use Rattle.hc_open.proofs.LinkLemmas.{idle, stays}
use Rattle.hc_core.proofs.moving.go_on.Goals as goal

pub returns-clause-clients : goal.returns-clause-clients
returns-clause-clients c = λ connections k alike is.
    stays c.args.to.closes c.insert.new.self connections (insert connections c.args.to.connection k) c.if-to.false
    (alike_put IsClient c.args.clients.now c.insert.new.self connections c.args.to.connection _ k c.in_ok-insert.field-0 alike (idle c.args.client k is)
    c.in_ok-insert.ensures.updates c.in_ok-insert.ensures.old c.in_ok-insert.ensures.len)
