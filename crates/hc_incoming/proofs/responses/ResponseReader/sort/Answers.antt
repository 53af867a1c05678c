use Rattle.std.proofs.Common.{◌+◌, ◌∙◌, rules, refl, sym, arith}
use Rattle.std.proofs.lemmas.Bool.{eqb-true, eq-eqb, false≢true}
use Rattle.hc_incoming.proofs.ResponseLemmas.{is_response, switches, too_many, is_dropped}
use Rattle.hc_incoming.proofs.responses.ResponseReader.sort.Goals as goal

pub returns-then-not-is_interim-clause-gives : goal.returns-then-not-is_interim-clause-gives
returns-then-not-is_interim-clause-gives c = λ to_head octets piece e.
    is_response to_head c.args.self.now octets piece c.args.used c.take_message-message.result e c.take_message-message.ensures.taken (search rules)

pub returns-then-eq-clause-gives : goal.returns-then-eq-clause-gives
returns-then-eq-clause-gives c = λ to_head octets piece e.
    switches to_head c.args.self.now octets piece c.args.used c.take_message-message.result e c.take_message-message.ensures.taken
    (sym c.status_of-status.ensures ∙ eqb-true _ _ (sym c.if-eq.ensures))

pub returns-then-self-ge-MOST_INTERIM-clause-gives : goal.returns-then-self-ge-MOST_INTERIM-clause-gives
returns-then-self-ge-MOST_INTERIM-clause-gives c = λ to_head octets piece e.
    too_many to_head c.args.self.now octets piece c.args.used c.take_message-message.result e c.take_message-message.ensures.taken (search rules)
    (λ same. false≢true (c.if-eq.ensures ∙ eq-eqb _ _ (c.status_of-status.ensures ∙ same)))
    (omega (arith, c.if-self-ge-MOST_INTERIM.true, c.take_message-message.ensures.begins.interim_is))

pub returns-clause-gives : goal.returns-clause-gives
returns-clause-gives c = λ to_head octets piece e.
    is_dropped to_head c.args.self.now c.take_message-message.new.self (record c.take_message-message.new.self { interim = c.take_message-message.new.self.interim + 1; heard = c.saturating_add-self.result }) octets piece c.args.used c.take_message-message.result
    e c.take_message-message.ensures.taken (search rules) (search rules) (omega arith) c.take_message-message.ensures.begins refl refl c.saturating_add-self.ensures refl
