use Rattle.std.proofs.Common.{refl, sym}
use Rattle.std.proofs.lemmas.Bool.{eqb-true, not-false}
use Rattle.hc_reactions.proofs.OutcomeLemmas.{unasked_without_condition}
use Rattle.hc_reactions.proofs.outcomes.is_unasked.Goals as goal

pub returns : goal.returns
returns c =
    unasked_without_condition c.args.forward.now.request c.args.response.now c.args.forward.now.request.method c.is_get_or_head.result c.has_condition.result
    (eqb-true _ _ (not-false _ (sym c.if-ne.ensures))) refl c.is_get_or_head.ensures c.if-not-is_get_or_head.false
    c.has_condition.ensures
