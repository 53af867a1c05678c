use Rattle.hc_service.proofs.RunLemmas.{runs_on, runs_counted}
use Rattle.hc_service.proofs.laws.runs_go_on.Goals as goal

pub returns-clause-on : goal.returns-clause-on
returns-clause-on c = runs_on

pub returns-clause-counted : goal.returns-clause-counted
returns-clause-counted c = runs_counted
