use Rattle.hc_service.specs.Answers.{Fails}
use Rattle.hc_service.specs.Answers.Outcome.{Replies}
use Rattle.hc_service.specs.Replying.{Wanted}
use Rattle.hc_core.specs.Ending.{wanted_of}
use Rattle.hc_core.proofs.SendLemmas.{gives_reply, on_ok_by, wanted_with}
use Rattle.hc_core.proofs.desk.Desk.fail.Goals as goal

pub returns : goal.returns
returns g c =
    let d = c.args.self.now in
    let w = c.args.held in
    on_ok_by c.reply_to.result _ _
    (gives_reply g.row.S.Denot g.row.S-Hasher.Denot w
    (λ reply old new. Fails (wanted_of {S = g.row.S.Denot} {H = g.row.S-Hasher.Denot} d w) c.args.forward.now.target c.args.cause old (Replies reply) new)
    c.args.actions.now.items c.reply_to.new.actions.items d c.reply_to.new.self c.fail.new.store c.closes_behind-closes.result c.in_ok-reply.reply c.closes_behind-closes.ensures
    (wanted_with g.row.S.Denot g.row.S-Hasher.Denot d w
    (λ (wanted : Wanted). Fails wanted c.args.forward.now.target c.args.cause d.store (Replies c.in_ok-reply.reply) c.fail.new.store)
    c.closes_behind-closes.result c.closes_behind-closes.ensures c.in_ok-reply.ensures))
    c.reply_to.ensures
