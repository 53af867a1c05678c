use Rattle.std.proofs.Common.{◌≤◌, ℕ, length, subst, sym}
use Rattle.std.specs.Prelude.{OnOk}
use Rattle.std.specs.BTreeMap.{BTreeMap}
use Rattle.hc_head.specs.declared.head.Target.{Target}
use Rattle.hc_incoming.specs.RequestReading.{unread}
use Rattle.hc_open.specs.declared.links.Client.{Client}
use Rattle.hc_core.specs.Reading.{SendsBehind, unread_at}
use Rattle.hc_core.specs.Standing.{at_desk}
use Rattle.hc_core.proofs.AskLemmas.{replies_alone, replies_then}
use Rattle.hc_core.proofs.SendLemmas.{always_ok, on_ok_by}
use Rattle.hc_core.proofs.desk.Desk.reply_and_validate.Goals as goal

pub returns-in-None-clause-replies : goal.returns-in-None-clause-replies
returns-in-None-clause-replies g c =
    replies_alone g.row.S.Denot g.row.S-Hasher.Denot c.args.held c.args.closes c.args.reply.now c.args.behind
    (at_desk c.args.actions.now.items c.args.self.now) (at_desk c.reply_at_once.new.actions.items c.reply_at_once.new.self) c.in-None.is c.in_ok-target.ensures.replies

pub returns-in-Some-clause-replies : goal.returns-in-Some-clause-replies
returns-in-Some-clause-replies g c =
    on_ok_by c.send_behind.result _ _
    (replies_then g.row.S.Denot g.row.S-Hasher.Denot c.args.held c.args.closes c.args.reply.now c.args.behind c.in-Some.validation
    (at_desk c.args.actions.now.items c.args.self.now) (at_desk c.reply_at_once.new.actions.items c.reply_at_once.new.self) (at_desk c.send_behind.new.actions.items c.send_behind.new.self) c.in-Some.is
    c.in_ok-target.ensures.replies)
    (subst (λ (t : Target). OnOk c.send_behind.result (SendsBehind {S = g.row.S.Denot} {H = g.row.S-Hasher.Denot} t c.in-Some.validation
    (at_desk c.reply_at_once.new.actions.items c.reply_at_once.new.self) (at_desk c.send_behind.new.actions.items c.send_behind.new.self)))
    c.in_ok-target.ensures.target c.send_behind.ensures.sends)

pub returns-in-Some-clause-unread : goal.returns-in-Some-clause-unread
returns-in-Some-clause-unread g c = λ none.
    always_ok c.send_behind.result _
    (subst (λ (m : BTreeMap ℕ Client). unread_at c.args.held.exchange.connection m ≤ length (unread c.args.held.client.reader)) (sym c.send_behind.ensures.clients)
    (c.in_ok-target.ensures.unread none))
