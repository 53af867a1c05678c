use Rattle.std.proofs.Common.{refl}
use Rattle.std.specs.FinMap.{remove}
use Rattle.hc_open.specs.Links.{IsClient}
use Rattle.hc_open.proofs.TableLemmas.{alike_put}
use Rattle.hc_core.proofs.ReadLemmas.{reads_trimmed}
use Rattle.hc_core.proofs.desk.Desk.trim.Goals as goal

pub returns : goal.returns
returns g c = λ settings s k exchange items stands there is awaits.
    reads_trimmed g.row.S.Denot g.row.S-Hasher.Denot settings c.args.c c.args.self.now s k c.trim.new.self c.insert.new.self items exchange _ stands there awaits refl (c.trim.ensures k exchange is awaits)
    (λ q like. alike_put IsClient c.args.self.now.clients c.insert.new.self (remove s.connections c.args.c) c.args.c c.trim.new.self q c.in_ok-insert.field-0 stands.clients like
    c.in_ok-insert.ensures.updates c.in_ok-insert.ensures.old c.in_ok-insert.ensures.len)
