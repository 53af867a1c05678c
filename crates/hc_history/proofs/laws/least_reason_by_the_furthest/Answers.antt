use Rattle.hc_history.proofs.FurthestLemmas.{all_passed, first_failed, Pass-found, Pass-only}
use Rattle.hc_history.proofs.laws.least_reason_by_the_furthest.Goals as goal

pub returns-clause-all : goal.returns-clause-all
returns-clause-all c = all_passed

pub returns-clause-first : goal.returns-clause-first
returns-clause-first c = first_failed

pub returns-clause-some : goal.returns-clause-some
returns-clause-some c = Pass-found

pub returns-clause-only : goal.returns-clause-only
returns-clause-only c = Pass-only
