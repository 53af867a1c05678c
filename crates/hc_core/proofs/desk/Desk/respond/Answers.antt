use Rattle.std.proofs.Common.{inl, inr}
use Rattle.hc_service.specs.Answers.{Responds, rule_of}
use Rattle.hc_service.specs.Answers.Outcome.{Replies, GoesAnew}
use Rattle.hc_service.specs.Replying.{Wanted}
use Rattle.hc_service.specs.State.{is_conditional}
use Rattle.hc_core.specs.Ending.{wanted_of}
use Rattle.hc_core.proofs.SendLemmas.{gives_anew, gives_reply, on_ok_by, wanted_with}
use Rattle.hc_core.proofs.desk.Desk.respond.Goals as goal

pub returns-in-Replies : goal.returns-in-Replies
returns-in-Replies g c =
    let d = c.args.self.now in
    let w = c.args.held in
    on_ok_by c.reply_to.result _ _
    (λ sends. inl (gives_reply g.row.S.Denot g.row.S-Hasher.Denot w
    (λ reply old new. Responds (rule_of c.args.forward.cause (is_conditional c.args.forward.kind) c.args.forward.sent.request c.args.response.head)
    (record { wanted = wanted_of {S = g.row.S.Denot} {H = g.row.S-Hasher.Denot} d w; forward = c.args.forward.sent; cause = c.args.forward.cause; response = c.args.response }) d.numbers.records old (Replies reply) new)
    c.args.actions.now.items c.reply_to.new.actions.items d c.reply_to.new.self c.respond.new.store c.closes_behind-closes.result c.in-Replies.reply c.closes_behind-closes.ensures
    (wanted_with g.row.S.Denot g.row.S-Hasher.Denot d w
    (λ (wanted : Wanted). Responds (rule_of c.args.forward.cause (is_conditional c.args.forward.kind) c.args.forward.sent.request c.args.response.head)
    (record { wanted = wanted; forward = c.args.forward.sent; cause = c.args.forward.cause; response = c.args.response }) d.numbers.records d.store (Replies c.in-Replies.reply) c.respond.new.store)
    c.closes_behind-closes.result c.closes_behind-closes.ensures (rw c.in-Replies.is at c.in_ok-outcome.ensures)) sends))
    c.reply_to.ensures

pub returns-in-GoesAnew : goal.returns-in-GoesAnew
returns-in-GoesAnew g c =
    let d = c.args.self.now in
    let w = c.args.held in
    on_ok_by c.go_anew.result _ _
    (λ sends. inr (gives_anew g.row.S.Denot g.row.S-Hasher.Denot w c.args.forward.cause
    (λ old new. Responds (rule_of c.args.forward.cause (is_conditional c.args.forward.kind) c.args.forward.sent.request c.args.response.head)
    (record { wanted = wanted_of {S = g.row.S.Denot} {H = g.row.S-Hasher.Denot} d w; forward = c.args.forward.sent; cause = c.args.forward.cause; response = c.args.response }) d.numbers.records old GoesAnew new)
    c.args.actions.now.items c.go_anew.new.actions.items d c.go_anew.new.self c.respond.new.store
    (wanted_with g.row.S.Denot g.row.S-Hasher.Denot d w
    (λ (wanted : Wanted). Responds (rule_of c.args.forward.cause (is_conditional c.args.forward.kind) c.args.forward.sent.request c.args.response.head)
    (record { wanted = wanted; forward = c.args.forward.sent; cause = c.args.forward.cause; response = c.args.response }) d.numbers.records d.store GoesAnew c.respond.new.store)
    c.closes_behind-closes.result c.closes_behind-closes.ensures (rw c.in-GoesAnew.is at c.in_ok-outcome.ensures)) sends))
    c.go_anew.ensures
