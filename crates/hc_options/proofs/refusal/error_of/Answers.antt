use Rattle.std.proofs.lemmas.Result.{IfOk-weaker}
use Rattle.hc_options.proofs.refusal.error_of.Goals as goal

pub returns-in-Ok-clause-message : goal.returns-in-Ok-clause-message
returns-in-Ok-clause-message c = IfOk-weaker c.error.result _ _ (λ _ _. rw c.in-Ok.is tt) c.error.ensures.kind
