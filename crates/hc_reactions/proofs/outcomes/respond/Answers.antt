use Rattle.std.proofs.Common.{refl, sym, ◌∙◌}
use Rattle.hc_service.specs.State.{is_conditional}
use Rattle.hc_reactions.proofs.OutcomeLemmas.{other_gets, validation_gets}
use Rattle.hc_reactions.proofs.outcomes.respond.Goals as goal

pub returns-then-is_validation : goal.returns-then-is_validation
returns-then-is_validation g c =
    validation_gets (record { wanted = c.args.wanted.now; forward = c.args.forward.sent; cause = c.args.forward.cause; response = c.args.response }) (is_conditional c.args.forward.kind) c.args.position _ _ c.validated_outcome.result
    (sym c.is_validation.ensures ∙ c.if-is_validation.true) refl c.validated_outcome.ensures

pub returns : goal.returns
returns g c =
    other_gets (record { wanted = c.args.wanted.now; forward = c.args.forward.sent; cause = c.args.forward.cause; response = c.args.response }) (is_conditional c.args.forward.kind) c.args.position _ _ c.in_ok-answered.field-0
    (sym c.is_validation.ensures ∙ c.if-is_validation.false) c.in_ok-answered.ensures
