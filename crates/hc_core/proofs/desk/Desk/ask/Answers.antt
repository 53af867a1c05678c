use Rattle.std.specs.Prelude.{None}
use Rattle.hc_reactions.specs.declared.reacting.Reaction.TheVariants.{Replies, Declines, Sends, Waits}
use Rattle.hc_core.proofs.AskLemmas.{asks_forward, asks_join, asks_replies, reacts_as}
use Rattle.hc_core.proofs.SendLemmas.{on_ok_by}
use Rattle.hc_core.proofs.desk.Desk.ask.Goals as goal

pub returns-in-Replies-clause-turn : goal.returns-in-Replies-clause-turn
returns-in-Replies-clause-turn g c = λ settings s k size stands there is.
    asks_replies g.row.S.Denot g.row.S-Hasher.Denot settings c.args.self.now s c.args.c k c.args.client c.args.request c.args.target size
    c.closes_behind-closes.result c.in_ok-number.number c.record_request.new.numbers
    c.args.actions.now.items c.record_request.new.actions.items c.reply_and_validate.new.actions.items c.in-Replies.reply c.in-Replies.behind c.react.new.store c.reply_and_validate.result
    c.reply_and_validate.new.self stands there is
    (record {
      closes_is = c.closes_behind-closes.ensures;
      exchange_is = c.in_ok-number.ensures.number;
      numbers_are = c.in_ok-number.ensures.numbers;
      actions_are = c.in_ok-number.ensures.actions;
      reacts = reacts_as _ c.args.target c.args.request c.args.self.now.store c.react.new.store c.args.self.now.links c.args.self.now.exchanges c.open_behind.result c.least_joinable.result
          c.in_ok-reaction.reaction (Replies c.in-Replies.reply c.in-Replies.behind) c.in-Replies.is c.open_behind.ensures c.least_joinable.ensures c.in_ok-reaction.ensures;
    })
    c.reply_and_validate.ensures.replies

pub returns-in-Declines-clause-turn : goal.returns-in-Declines-clause-turn
returns-in-Declines-clause-turn g c = λ settings s k size stands there is.
    asks_replies g.row.S.Denot g.row.S-Hasher.Denot settings (record c.args.self.now { incidents = c.note_refusal.new.self }) s c.args.c k c.args.client c.args.request c.args.target size
    c.closes_behind-closes.result c.in_ok-number.number c.record_request.new.numbers
    c.args.actions.now.items c.record_request.new.actions.items c.reply_and_validate-in-Declines.new.actions.items c.in-Declines.reply None c.react.new.store c.reply_and_validate-in-Declines.result
    c.reply_and_validate-in-Declines.new.self stands there is
    (record {
      closes_is = c.closes_behind-closes.ensures;
      exchange_is = c.in_ok-number.ensures.number;
      numbers_are = c.in_ok-number.ensures.numbers;
      actions_are = c.in_ok-number.ensures.actions;
      reacts = reacts_as _ c.args.target c.args.request c.args.self.now.store c.react.new.store c.args.self.now.links c.args.self.now.exchanges c.open_behind.result c.least_joinable.result
          c.in_ok-reaction.reaction (Declines c.in-Declines.reply) c.in-Declines.is c.open_behind.ensures c.least_joinable.ensures c.in_ok-reaction.ensures;
    })
    c.reply_and_validate-in-Declines.ensures.replies

pub returns-in-Sends-clause-turn : goal.returns-in-Sends-clause-turn
returns-in-Sends-clause-turn g c = λ settings s k size stands there is.
    on_ok_by c.go_forward.result _ _
    (asks_forward g.row.S.Denot g.row.S-Hasher.Denot settings c.args.self.now s c.args.c k c.args.client c.args.request c.args.target size
    c.closes_behind-closes.result c.in_ok-number.number c.record_request.new.numbers
    c.args.actions.now.items c.record_request.new.actions.items c.go_forward.new.actions.items c.in-Sends.forward c.in-Sends.cause c.in-Sends.kind c.react.new.store c.go_forward.new.self stands there is
    (record {
      closes_is = c.closes_behind-closes.ensures;
      exchange_is = c.in_ok-number.ensures.number;
      numbers_are = c.in_ok-number.ensures.numbers;
      actions_are = c.in_ok-number.ensures.actions;
      reacts = reacts_as _ c.args.target c.args.request c.args.self.now.store c.react.new.store c.args.self.now.links c.args.self.now.exchanges c.open_behind.result c.least_joinable.result
          c.in_ok-reaction.reaction (Sends c.in-Sends.forward c.in-Sends.cause c.in-Sends.kind) c.in-Sends.is c.open_behind.ensures c.least_joinable.ensures c.in_ok-reaction.ensures;
    }))
    c.go_forward.ensures.goes

pub returns-clause-turn : goal.returns-clause-turn
returns-clause-turn g c = λ settings s k size stands there is.
    on_ok_by c.join.result _ _
    (asks_join g.row.S.Denot g.row.S-Hasher.Denot settings c.args.self.now s c.args.c k c.args.client c.args.request c.args.target size
    c.closes_behind-closes.result c.in_ok-number.number c.record_request.new.numbers
    c.args.actions.now.items c.record_request.new.actions.items c.in-Waits.forward c.react.new.store c.join.new.self stands there is
    (record {
      closes_is = c.closes_behind-closes.ensures;
      exchange_is = c.in_ok-number.ensures.number;
      numbers_are = c.in_ok-number.ensures.numbers;
      actions_are = c.in_ok-number.ensures.actions;
      reacts = reacts_as _ c.args.target c.args.request c.args.self.now.store c.react.new.store c.args.self.now.links c.args.self.now.exchanges c.open_behind.result c.least_joinable.result
          c.in_ok-reaction.reaction (Waits c.in-Waits.forward) c.in-Waits.is c.open_behind.ensures c.least_joinable.ensures c.in_ok-reaction.ensures;
    }))
    c.join.ensures.joins
