use Rattle.std.specs.FinMap.{remove}
use Rattle.hc_service.specs.Turns.{after_leaving}
use Rattle.hc_open.specs.Links.{IsClient}
use Rattle.hc_open.proofs.TableLemmas.{alike_put}
use Rattle.hc_core.proofs.LeaveLemmas.{ends_busy}
use Rattle.hc_core.proofs.desk.Desk.leave_busy.Goals as goal

pub returns : goal.returns
returns g c = λ settings s k exchange items stands there is awaits stays.
    ends_busy g.row.S.Denot g.row.S-Hasher.Denot settings c.args.c c.args.self.now s k stands there c.insert.new.self items exchange stays awaits
    (alike_put IsClient c.args.self.now.clients c.insert.new.self (remove s.connections c.args.c) c.args.c c.leave.new.self (after_leaving k) c.in_ok-insert.field-0 stands.clients
    (c.leave.ensures k exchange is awaits) c.in_ok-insert.ensures.updates c.in_ok-insert.ensures.old c.in_ok-insert.ensures.len)
