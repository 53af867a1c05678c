use Rattle.hc_rules.proofs.ForwardLemmas.{plain_target, unconditional_target, conditional_target}
use Rattle.hc_rules.proofs.forward_laws.forwards_keep_the_target.Goals as goal

pub returns-clause-plain : goal.returns-clause-plain
returns-clause-plain c = plain_target

pub returns-clause-unconditional : goal.returns-clause-unconditional
returns-clause-unconditional c = unconditional_target

pub returns-clause-conditional : goal.returns-clause-conditional
returns-clause-conditional c = conditional_target
