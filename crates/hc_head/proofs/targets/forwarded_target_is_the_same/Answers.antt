use Rattle.hc_head.proofs.ForwardLemmas.{same_method, other_method, forwarded_plain}
use Rattle.hc_head.proofs.targets.forwarded_target_is_the_same.Goals as goal

pub returns-clause-same_method : goal.returns-clause-same_method
returns-clause-same_method c = same_method

pub returns-clause-other_method : goal.returns-clause-other_method
returns-clause-other_method c = other_method

pub returns-clause-plain : goal.returns-clause-plain
returns-clause-plain c = forwarded_plain
