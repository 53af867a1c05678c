use Rattle.hc_service.proofs.RunLemmas.{runs_judged}
use Rattle.hc_service.proofs.laws.runs_are_judged_right.Goals as goal

pub returns : goal.returns
returns c = runs_judged
