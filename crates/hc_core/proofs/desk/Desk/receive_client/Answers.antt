use Rattle.std.proofs.Common.{Some, sym, subst}
use Rattle.std.specs.FinMap.{remove}
use Rattle.hc_service.specs.Turns.{after_client_octets}
use Rattle.hc_open.specs.Links.{AreClients, IsClient}
use Rattle.hc_open.proofs.TableLemmas.{alike_put, alike_taken, found_for, put_back}
use Rattle.hc_core.proofs.ClientLemmas.{heard}
use Rattle.hc_core.proofs.desk.Desk.receive_client.Goals as goal

pub returns : goal.returns
returns g c = λ settings s k stands there.
    let d = c.args.self.now in
    let n = c.args.c in
    let was = found_for IsClient _ _ c.in-Some.client k (stands.clients.at n) (sym c.in-Some.ensures.value) there in
    let out = alike_taken IsClient d.clients c.remove.new.self s.connections n (Some c.in-Some.client) stands.clients
    c.in-Some.ensures.updates c.in-Some.ensures.value c.in-Some.ensures.len in
    let back = alike_put IsClient c.remove.new.self c.insert.new.self (remove s.connections n) n c.hear.new.self (after_client_octets c.args.octets.now k) c.in_ok-insert.field-0 out
    (c.in_ok-hear.ensures k was) c.in_ok-insert.ensures.updates c.in_ok-insert.ensures.old c.in_ok-insert.ensures.len in
    heard g.row.S.Denot g.row.S-Hasher.Denot settings d s n c.args.octets.now k c.insert.new.self stands there
    (subst (AreClients c.insert.new.self) (put_back s.connections n (after_client_octets c.args.octets.now k)) back)
