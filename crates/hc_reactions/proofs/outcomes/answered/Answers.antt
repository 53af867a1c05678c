use Rattle.std.proofs.Common.{refl, sym, ◌∙◌}
use Rattle.hc_reactions.proofs.OutcomeLemmas.{error_gets, response_passes, unasked_gets}
use Rattle.hc_reactions.proofs.outcomes.answered.Goals as goal

pub returns-then-is_unasked : goal.returns-then-is_unasked
returns-then-is_unasked g c =
    unasked_gets (record { wanted = c.args.wanted.now; forward = c.args.forward; cause = c.args.cause; response = c.args.response }) _ _ c.made_reply.result
    (sym c.is_unasked.ensures ∙ c.if-is_unasked.true) refl c.made_reply.ensures

pub returns-then-is_replaceable : goal.returns-then-is_replaceable
returns-then-is_replaceable g c =
    error_gets (record { wanted = c.args.wanted.now; forward = c.args.forward; cause = c.args.cause; response = c.args.response }) _ _ c.replace.result
    (sym c.is_unasked.ensures ∙ c.if-is_unasked.false) (sym c.is_replaceable.ensures ∙ c.if-is_replaceable.true) c.replace.ensures

pub returns : goal.returns
returns g c =
    response_passes (record { wanted = c.args.wanted.now; forward = c.args.forward; cause = c.args.cause; response = c.args.response }) _ _ c.pass.result
    (sym c.is_unasked.ensures ∙ c.if-is_unasked.false) (sym c.is_replaceable.ensures ∙ c.if-is_replaceable.false) c.pass.ensures
