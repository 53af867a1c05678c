use Rattle.hc_rules.proofs.PassedLemmas.{plain_no_framing, unconditional_no_framing, conditional_no_framing}
use Rattle.hc_rules.proofs.forward_laws.forwards_frame_no_body.Goals as goal

pub returns-clause-plain : goal.returns-clause-plain
returns-clause-plain c = plain_no_framing

pub returns-clause-unconditional : goal.returns-clause-unconditional
returns-clause-unconditional c = unconditional_no_framing

pub returns-clause-conditional : goal.returns-clause-conditional
returns-clause-conditional c = conditional_no_framing
