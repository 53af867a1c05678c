use Rattle.std.proofs.Common.{sym, ◌∙◌}
use Rattle.hc_core.proofs.ReleaseLemmas.{released_alone, released_reply}
use Rattle.hc_core.proofs.SendLemmas.{on_ok_by}
use Rattle.hc_core.proofs.desk.Desk.release_held.Goals as goal

pub returns-in-Some : goal.returns-in-Some
returns-in-Some g c =
    on_ok_by c.reply_to.result _ _
    (released_reply g.row.S.Denot g.row.S-Hasher.Denot c.args.held c.args.actions.now.items c.reply_to.new.actions.items c.args.self.now c.reply_to.new.self c.release.new.store
    c.closes_behind-closes.result c.closes_behind-closes.ensures c.in_ok-reply.ensures.chosen c.in-Some.reply c.in_ok-reply.ensures.finds (sym c.in-Some.is ∙ c.in_ok-reply.ensures.reply_is))
    c.reply_to.ensures

pub returns-in-None : goal.returns-in-None
returns-in-None g c =
    on_ok_by c.go_alone.result _ _
    (released_alone g.row.S.Denot g.row.S-Hasher.Denot c.args.held c.args.actions.now.items c.go_alone.new.actions.items c.args.self.now c.go_alone.new.self c.release.new.store
    c.closes_behind-closes.result c.closes_behind-closes.ensures c.in_ok-reply.ensures.chosen c.in_ok-reply.ensures.finds (sym c.in-None.is ∙ c.in_ok-reply.ensures.reply_is))
    c.go_alone.ensures
