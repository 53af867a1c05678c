use Rattle.hc_history.proofs.LiveLemmas.{passed_remaining, furthest_is_live}
use Rattle.hc_history.proofs.laws.forgotten_changes_no_reason.Goals as goal

pub returns-clause-one : goal.returns-clause-one
returns-clause-one c = passed_remaining

pub returns-clause-live : goal.returns-clause-live
returns-clause-live c = furthest_is_live
