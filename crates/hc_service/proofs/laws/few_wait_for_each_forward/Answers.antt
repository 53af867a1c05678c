use Rattle.hc_service.proofs.FewLemmas.{event_few, runs_few, steps_few}
use Rattle.hc_service.proofs.laws.few_wait_for_each_forward.Goals as goal

pub returns-clause-event : goal.returns-clause-event
returns-clause-event c = event_few

pub returns-clause-run : goal.returns-clause-run
returns-clause-run c = steps_few

pub returns-clause-runs : goal.returns-clause-runs
returns-clause-runs c = runs_few
