use Rattle.hc_core.proofs.SendLemmas.{sends_reply, when_ok, of_ok}
use Rattle.hc_core.proofs.desk.Desk.reply_to.Goals as goal

pub returns : goal.returns
returns g c = when_ok c.reply_on.result _ (λ ok.
    sends_reply g.row.S.Denot g.row.S-Hasher.Denot c.args.held c.addressee-to.result c.args.closes c.args.reply.now c.args.actions.now.items c.reply_on.new.actions.items
    c.args.self.now c.reply_on.new.numbers c.reply_on.new.clients c.addressee-to.ensures (of_ok c.reply_on.result _ c.reply_on.ensures.numbers ok)
    (λ connections k are is. of_ok c.reply_on.result _ (c.reply_on.ensures.clients connections k are is) ok)
    (of_ok c.reply_on.result _ c.reply_on.ensures.actions ok))
