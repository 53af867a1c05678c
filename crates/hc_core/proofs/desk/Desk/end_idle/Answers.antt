use Rattle.hc_core.proofs.LeaveLemmas.{cut_off_at_end, ends_closing, ends_refused, on_ok, refused_at_end}
use Rattle.hc_incoming.specs.Troubles.{refusal_status}
use Rattle.hc_core.proofs.desk.Desk.end_idle.Goals as goal

pub returns-in-Some : goal.returns-in-Some
returns-in-Some g c = λ settings s k stands there is idle stays.
    on_ok c.refuse_client.result
    (ends_refused g.row.S.Denot g.row.S-Hasher.Denot settings c.args.c (record c.args.self.now { incidents = c.refuse_client.new.incidents }) s k stands there (refusal_status c.in-Some.trouble) c.args.actions.now.items c.refuse_client.new.actions.items stays idle
    (refused_at_end c.in_ok-trouble.field-0 c.in-Some.trouble k.unread c.in-Some.is (c.in_ok-trouble.ensures.gives k.unread is.reads)))
    c.refuse_client.ensures.actions

pub returns : goal.returns
returns g c = λ settings s k stands there is idle stays.
    ends_closing g.row.S.Denot g.row.S-Hasher.Denot settings c.args.c c.args.self.now s k stands there c.args.actions.now.items c.push.new.self.items stays idle
    (cut_off_at_end c.in_ok-trouble.field-0 k.unread c.in-None.is (c.in_ok-trouble.ensures.gives k.unread is.reads))
    c.in_ok-push-in-None.ensures.items
