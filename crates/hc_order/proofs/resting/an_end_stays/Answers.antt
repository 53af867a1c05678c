use Rattle.hc_order.proofs.EndLemmas.{event_ends, event_stays, event_told, runs_told}
use Rattle.hc_order.proofs.resting.an_end_stays.Goals as goal

pub returns-clause-ends : goal.returns-clause-ends
returns-clause-ends c = λ settings event s actions other h n agrees is v. event_ends settings event s actions other v h n agrees is

pub returns-clause-stays : goal.returns-clause-stays
returns-clause-stays c = λ settings event s actions other n was v. event_stays settings event s actions other v n was

pub returns-clause-told : goal.returns-clause-told
returns-clause-told c = λ settings event s actions other h n was agrees before v is. event_told settings event s actions other v h n was agrees before is

pub returns-clause-runs : goal.returns-clause-runs
returns-clause-runs c = runs_told
