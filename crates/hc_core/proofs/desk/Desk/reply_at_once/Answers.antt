use Rattle.hc_core.proofs.SendLemmas.{sends_reply}
use Rattle.hc_core.proofs.desk.Desk.reply_at_once.Goals as goal

pub returns-clause-replies : goal.returns-clause-replies
returns-clause-replies g c =
    sends_reply g.row.S.Denot g.row.S-Hasher.Denot c.args.held c.addressee-to.result c.args.closes c.args.reply.now c.args.actions.now.items c.reply_on.new.actions.items
    c.args.self.now c.reply_on.new.numbers c.reply_on.new.clients c.addressee-to.ensures c.in_ok-reply_on.ensures.numbers
    c.in_ok-reply_on.ensures.clients c.in_ok-reply_on.ensures.actions
