use Rattle.std.specs.FinMap.{remove}
use Rattle.hc_incoming.proofs.HeadLemmas.{refused_for}
use Rattle.hc_incoming.specs.Troubles.{refusal_status}
use Rattle.hc_incoming.specs.declared.arrival.RequestArrival.TheVariants.{More, Refused, Request}
use Rattle.hc_open.specs.Links.{IsClient}
use Rattle.hc_open.proofs.TableLemmas.{alike_put}
use Rattle.hc_core.proofs.ReadLemmas.{asked_of, gives_as, reads_asking, reads_refusal, reads_unfinished, still_idle}
use Rattle.hc_core.proofs.desk.Desk.read_idle.Goals as goal

pub returns-in_ok-insert-in-More-clause-reading : goal.returns-in_ok-insert-in-More-clause-reading
returns-in_ok-insert-in-More-clause-reading g c = λ settings s k stands there is idle.
    let gives = gives_as c.in_ok-next.field-0 More c.next.new.self k.unread c.in-More.is (c.in_ok-next.ensures.gives k.unread is.reads) in
    reads_unfinished g.row.S.Denot g.row.S-Hasher.Denot settings c.args.c c.args.self.now s k stands there c.insert.new.self c.args.actions.now.items
    (alike_put IsClient c.args.self.now.clients c.insert.new.self (remove s.connections c.args.c) c.args.c _ k c.in_ok-insert-in-More.field-0 stands.clients
    (still_idle c.args.client c.next.new.self k is idle gives.1) c.in_ok-insert-in-More.ensures.updates c.in_ok-insert-in-More.ensures.old c.in_ok-insert-in-More.ensures.len)
    idle gives.0

pub returns-in_ok-refuse_client-in-Refused-clause-reading : goal.returns-in_ok-refuse_client-in-Refused-clause-reading
returns-in_ok-refuse_client-in-Refused-clause-reading g c = λ settings s k stands there is idle.
    reads_refusal g.row.S.Denot g.row.S-Hasher.Denot settings c.args.c (record c.args.self.now { incidents = c.refuse_client.new.incidents }) s k stands there (refusal_status c.in-Refused.trouble) c.args.actions.now.items c.refuse_client.new.actions.items idle
    (refused_for k.unread c.in-Refused.trouble
    (gives_as c.in_ok-next.field-0 (Refused c.in-Refused.trouble) c.next.new.self k.unread c.in-Refused.is (c.in_ok-next.ensures.gives k.unread is.reads)))
    c.in_ok-refuse_client-in-Refused.ensures.actions

pub returns-in_ok-ask-in-Request-clause-reading : goal.returns-in_ok-ask-in-Request-clause-reading
returns-in_ok-ask-in-Request-clause-reading g c = λ settings s k stands there is idle.
    let takes = gives_as c.in_ok-next.field-0 (Request c.in-Request.request c.in-Request.target) c.next.new.self k.unread c.in-Request.is (c.in_ok-next.ensures.gives k.unread is.reads) in
    reads_asking g.row.S.Denot g.row.S-Hasher.Denot settings c.args.c c.ask.new.self s c.args.actions.now.items c.ask.new.actions.items
    (c.in_ok-ask-in-Request.ensures.turn settings s k takes.len stands there
    (asked_of c.args.client c.next.new.self k c.in-Request.request c.in-Request.target is idle takes))
