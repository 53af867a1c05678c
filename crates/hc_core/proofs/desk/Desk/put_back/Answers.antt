use Rattle.std.specs.FinMap.{remove}
use Rattle.hc_open.specs.Links.{IsClient}
use Rattle.hc_open.proofs.TableLemmas.{alike_put}
use Rattle.hc_core.proofs.LeaveLemmas.{ends_unread}
use Rattle.hc_core.proofs.desk.Desk.put_back.Goals as goal

pub returns : goal.returns
returns g c = λ settings s k items stands there is leaves.
    ends_unread g.row.S.Denot g.row.S-Hasher.Denot settings c.args.c c.args.self.now s k stands there c.insert.new.self items leaves
    (alike_put IsClient c.args.self.now.clients c.insert.new.self (remove s.connections c.args.c) c.args.c c.args.client k c.in_ok-insert.field-0 stands.clients is
    c.in_ok-insert.ensures.updates c.in_ok-insert.ensures.old c.in_ok-insert.ensures.len)
