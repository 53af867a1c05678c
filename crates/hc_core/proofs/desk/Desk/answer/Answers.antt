use Rattle.hc_core.proofs.OutcomeLemmas.{answers_behind, answers_nobody, answers_request}
use Rattle.hc_core.proofs.desk.Desk.answer.Goals as goal

pub returns-in_default : goal.returns-in_default
returns-in_default g c = λ settings s awaited ended stands there same arrives.
    answers_nobody g.row.S.Denot g.row.S-Hasher.Denot settings c.args.self.now s c.args.f awaited c.args.forward stands there same
    ended c.args.response c.is_head-to_head.result c.args.actions.now.items c.record_response.new.actions.items c.record_response.new.numbers c.renew.new.store arrives
    (record {
      to_head_is = c.is_head-to_head.ensures;
      numbers_are = c.in_ok-record_response.ensures.numbers;
      actions_are = c.in_ok-record_response.ensures.actions;
      renews = c.renew.ensures;
    })
    c.in-Reply.exchange c.in-Reply.cause c.in-Reply.kind c.take_exchange.new.clients c.take_exchange.new.exchanges c.in-Reply.is
    (c.in_default.ensures s.exchanges s.connections stands.exchanges stands.clients)

pub returns-in_ok-store_behind-in-Background : goal.returns-in_ok-store_behind-in-Background
returns-in_ok-store_behind-in-Background g c = λ settings s awaited ended stands there same arrives.
    answers_behind g.row.S.Denot g.row.S-Hasher.Denot settings c.args.self.now s c.args.f awaited c.args.forward stands there same
    ended c.args.response c.is_head-to_head.result c.args.actions.now.items c.record_response.new.actions.items c.record_response.new.numbers c.renew.new.store arrives
    (record {
      to_head_is = c.is_head-to_head.ensures;
      numbers_are = c.in_ok-record_response.ensures.numbers;
      actions_are = c.in_ok-record_response.ensures.actions;
      renews = c.renew.ensures;
    })
    c.store_behind.new.store c.in-Background.is c.in_ok-store_behind-in-Background.ensures

pub returns-in_ok-respond-in-Reply : goal.returns-in_ok-respond-in-Reply
returns-in_ok-respond-in-Reply g c = λ settings s awaited ended stands there same arrives.
    answers_request g.row.S.Denot g.row.S-Hasher.Denot settings c.args.self.now s c.args.f awaited c.args.forward stands there same
    ended c.args.response c.is_head-to_head.result c.args.actions.now.items c.record_response.new.actions.items c.record_response.new.numbers c.renew.new.store arrives
    (record {
      to_head_is = c.is_head-to_head.ensures;
      numbers_are = c.in_ok-record_response.ensures.numbers;
      actions_are = c.in_ok-record_response.ensures.actions;
      renews = c.renew.ensures;
    })
    c.in-Reply.exchange c.in-Reply.cause c.in-Reply.kind c.take_exchange.new.clients c.take_exchange.new.exchanges c.in-Reply.is
    c.in-Some.held c.respond.new.actions.items c.respond.new.self
    (c.in-Some.ensures s.exchanges s.connections stands.exchanges stands.clients) c.in_ok-respond-in-Reply.ensures
