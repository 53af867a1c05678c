use Rattle.hc_history.proofs.ReasonLemmas.{not_both, one_reason}
use Rattle.hc_history.proofs.laws.wrong_by_one_reason.Goals as goal

pub returns-clause-right : goal.returns-clause-right
returns-clause-right c = not_both

pub returns-clause-one : goal.returns-clause-one
returns-clause-one c = one_reason
