use Rattle.hc_core.proofs.OutcomeLemmas.{breaks_behind, breaks_nobody, breaks_request}
use Rattle.hc_core.proofs.desk.Desk.break_off.Goals as goal

pub returns-in_default : goal.returns-in_default
returns-in_default g c = λ settings s awaited how stands there same closes fails.
    breaks_nobody g.row.S.Denot g.row.S-Hasher.Denot settings c.args.self.now s c.args.f awaited c.args.forward stands there same
    how c.args.closes c.args.actions.now.items c.record_failure.new.actions.items c.record_failure.new.numbers closes fails
    (record { numbers_are = c.in_ok-record_failure.ensures.numbers; actions_are = c.in_ok-record_failure.ensures.actions })
    c.in-Reply.exchange c.in-Reply.cause c.in-Reply.kind c.take_exchange.new.clients c.take_exchange.new.exchanges c.in-Reply.is
    (c.in_default.ensures s.exchanges s.connections stands.exchanges stands.clients)

pub returns-in-Background : goal.returns-in-Background
returns-in-Background g c = λ settings s awaited how stands there same closes fails.
    breaks_behind g.row.S.Denot g.row.S-Hasher.Denot settings c.args.self.now s c.args.f awaited c.args.forward stands there same
    how c.args.closes c.args.actions.now.items c.record_failure.new.actions.items c.record_failure.new.numbers closes fails
    (record { numbers_are = c.in_ok-record_failure.ensures.numbers; actions_are = c.in_ok-record_failure.ensures.actions })
    c.in-Background.is

pub returns : goal.returns
returns g c = λ settings s awaited how stands there same closes fails.
    breaks_request g.row.S.Denot g.row.S-Hasher.Denot settings c.args.self.now s c.args.f awaited c.args.forward stands there same
    how c.args.closes c.args.actions.now.items c.record_failure.new.actions.items c.record_failure.new.numbers closes fails
    (record { numbers_are = c.in_ok-record_failure.ensures.numbers; actions_are = c.in_ok-record_failure.ensures.actions })
    c.in-Reply.exchange c.in-Reply.cause c.in-Reply.kind c.take_exchange.new.clients c.take_exchange.new.exchanges c.in-Reply.is
    c.in-Some.held c.fail.new.actions.items c.fail.new.self
    (c.in-Some.ensures s.exchanges s.connections stands.exchanges stands.clients) c.in_ok-fail-in-Reply.ensures
