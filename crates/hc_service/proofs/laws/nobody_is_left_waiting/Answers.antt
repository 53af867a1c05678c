use Rattle.hc_service.proofs.ForwardLemmas.{event_leaves, new_each_leaves, new_runs_leave, runs_leave}
use Rattle.hc_service.proofs.LeftLemmas.{event_waits, steps_wait}
use Rattle.hc_service.proofs.laws.nobody_is_left_waiting.Goals as goal

pub returns-clause-event : goal.returns-clause-event
returns-clause-event c = event_waits

pub returns-clause-run : goal.returns-clause-run
returns-clause-run c = steps_wait

pub returns-clause-served : goal.returns-clause-served
returns-clause-served c = event_leaves

pub returns-clause-on : goal.returns-clause-on
returns-clause-on c = runs_leave

pub returns-clause-runs : goal.returns-clause-runs
returns-clause-runs c = new_runs_leave

pub returns-clause-along : goal.returns-clause-along
returns-clause-along c = new_each_leaves
