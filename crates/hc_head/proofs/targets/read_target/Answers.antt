use Rattle.hc_head.proofs.TargetLemmas.{finds_target}
use Rattle.hc_head.proofs.targets.read_target.Goals as goal

pub returns-clause-found : goal.returns-clause-found
returns-clause-found c = finds_target c.args.head.now _ c.read_into.ensures
