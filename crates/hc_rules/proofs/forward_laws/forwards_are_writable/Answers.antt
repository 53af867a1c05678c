use Rattle.hc_rules.proofs.PassedLemmas.{plain_writable, unconditional_writable, conditional_writable}
use Rattle.hc_rules.proofs.forward_laws.forwards_are_writable.Goals as goal

pub returns-clause-plain : goal.returns-clause-plain
returns-clause-plain c = plain_writable

pub returns-clause-unconditional : goal.returns-clause-unconditional
returns-clause-unconditional c = unconditional_writable

pub returns-clause-conditional : goal.returns-clause-conditional
returns-clause-conditional c = conditional_writable
