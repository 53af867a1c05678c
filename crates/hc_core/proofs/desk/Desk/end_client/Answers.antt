use Rattle.std.proofs.Common.{Some, sym, ◌∙◌}
use Rattle.hc_open.specs.Links.{IsClient}
use Rattle.hc_open.proofs.TableLemmas.{alike_taken, found_for}
use Rattle.hc_core.proofs.LeaveLemmas.{left_without}
use Rattle.hc_core.proofs.desk.Desk.end_client.Goals as goal

pub returns-then-client : goal.returns-then-client
returns-then-client g c = λ settings s k stands there.
    let d = c.args.self.now in
    let n = c.args.c in
    let was = found_for IsClient _ _ c.in-Some.client k (stands.clients.at n) (sym c.in-Some.ensures.value) there in
    let out = alike_taken IsClient d.clients c.remove.new.self s.connections n (Some c.in-Some.client) stands.clients
    c.in-Some.ensures.updates c.in-Some.ensures.value c.in-Some.ensures.len in
    c.put_back.ensures settings s k c.args.actions.now.items (left_without g.row.S.Denot g.row.S-Hasher.Denot settings n d s c.remove.new.self stands out) there was (sym was.leaves ∙ c.if-client.true)

pub returns-in-Some-exchange : goal.returns-in-Some-exchange
returns-in-Some-exchange g c = λ settings s k stands there.
    let d = c.args.self.now in
    let n = c.args.c in
    let was = found_for IsClient _ _ c.in-Some.client k (stands.clients.at n) (sym c.in-Some.ensures.value) there in
    let out = alike_taken IsClient d.clients c.remove.new.self s.connections n (Some c.in-Some.client) stands.clients
    c.in-Some.ensures.updates c.in-Some.ensures.value c.in-Some.ensures.len in
    c.leave_busy.ensures settings s k _ c.args.actions.now.items (left_without g.row.S.Denot g.row.S-Hasher.Denot settings n d s c.remove.new.self stands out) there was
    (sym was.exchange ∙ c.in-Some-exchange.is) (sym was.leaves ∙ c.if-client.false)

pub returns-in-None : goal.returns-in-None
returns-in-None g c = λ settings s k stands there.
    let d = c.args.self.now in
    let n = c.args.c in
    let was = found_for IsClient _ _ c.in-Some.client k (stands.clients.at n) (sym c.in-Some.ensures.value) there in
    let out = alike_taken IsClient d.clients c.remove.new.self s.connections n (Some c.in-Some.client) stands.clients
    c.in-Some.ensures.updates c.in-Some.ensures.value c.in-Some.ensures.len in
    c.end_idle.ensures settings s k (left_without g.row.S.Denot g.row.S-Hasher.Denot settings n d s c.remove.new.self stands out) there was (sym was.exchange ∙ c.in-None.is) (sym was.leaves ∙ c.if-client.false)
