use Rattle.hc_service.proofs.RunLemmas.{right_begins, right_joins, right_counted, right_judged}
use Rattle.hc_service.proofs.laws.right_runs_join.Goals as goal

pub returns-clause-begins : goal.returns-clause-begins
returns-clause-begins c = right_begins

pub returns-clause-joins : goal.returns-clause-joins
returns-clause-joins c = right_joins

pub returns-clause-counted : goal.returns-clause-counted
returns-clause-counted c = right_counted

pub returns-clause-judged : goal.returns-clause-judged
returns-clause-judged c = right_judged
