use Rattle.hc_head.proofs.HostLemmas.{one_authority}
use Rattle.hc_head.proofs.TargetLemmas.{one_target}
use Rattle.hc_head.proofs.targets.one_target.Goals as goal

pub returns-clause-target : goal.returns-clause-target
returns-clause-target c = one_target

pub returns-clause-authority : goal.returns-clause-authority
returns-clause-authority c = one_authority
