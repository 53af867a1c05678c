use Rattle.hc_service.specs.State.{new_connection}
use Rattle.hc_open.specs.Links.{IsClient}
use Rattle.hc_open.proofs.TableLemmas.{alike_put}
use Rattle.hc_core.proofs.ClientLemmas.{opened}
use Rattle.hc_core.proofs.desk.Desk.open.Goals as goal

pub returns : goal.returns
returns g c = λ settings s stands later place.
    opened g.row.S.Denot g.row.S-Hasher.Denot settings c.args.self.now s c.args.c c.open.new.self c.insert.new.self stands later place c.open.ensures
    (alike_put IsClient c.args.self.now.clients c.insert.new.self s.connections c.args.c c.new.result new_connection c.in_ok-insert.field-0 stands.clients c.new.ensures
    c.in_ok-insert.ensures.updates c.in_ok-insert.ensures.old c.in_ok-insert.ensures.len)
