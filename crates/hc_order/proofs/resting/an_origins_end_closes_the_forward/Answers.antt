use Rattle.hc_order.proofs.EndLemmas.{end_over, event_open, event_over, failure_over, runs_open}
use Rattle.hc_order.proofs.resting.an_origins_end_closes_the_forward.Goals as goal

pub returns-clause-ended : goal.returns-clause-ended
returns-clause-ended c = λ settings event s actions other h f agrees is v. end_over settings event s actions other v h f agrees is

pub returns-clause-failed : goal.returns-clause-failed
returns-clause-failed c = λ settings event s actions other h f agrees is v. failure_over settings event s actions other v h f agrees is

pub returns-clause-stays : goal.returns-clause-stays
returns-clause-stays c = λ settings event s actions other f few over v. event_over settings event s actions other v f few over

pub returns-clause-told : goal.returns-clause-told
returns-clause-told c = λ settings event s actions other h f was agrees before v now. event_open settings event s actions other v h f was agrees before now

pub returns-clause-runs : goal.returns-clause-runs
returns-clause-runs c = runs_open
