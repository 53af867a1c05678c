use Rattle.std.proofs.Common.{subst, sym}
use Rattle.hc_head.specs.declared.head.RequestHead.{RequestHead}
use Rattle.hc_head.specs.Targets.{HasTarget}
use Rattle.hc_head.proofs.targets.target.Goals as goal

pub returns-in-Ok-clause-found : goal.returns-in-Ok-clause-found
returns-in-Ok-clause-found c = λ there has. c.in-Ok.ensures.found there (subst (λ (h : RequestHead). HasTarget h there) (sym c.lent.ensures) has)

pub returns-in-Err-clause-found : goal.returns-in-Err-clause-found
returns-in-Err-clause-found c = λ there has. c.in-Err.ensures.found there (subst (λ (h : RequestHead). HasTarget h there) (sym c.lent.ensures) has)
