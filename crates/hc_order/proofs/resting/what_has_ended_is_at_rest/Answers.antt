use Rattle.hc_order.proofs.RestLemmas.{at_rest, no_exchange, none_leaves, rest_has, runs_rest}
use Rattle.hc_order.proofs.resting.what_has_ended_is_at_rest.Goals as goal

pub returns-clause-exchanges : goal.returns-clause-exchanges
returns-clause-exchanges c = no_exchange

pub returns-clause-connections : goal.returns-clause-connections
returns-clause-connections c = none_leaves

pub returns-clause-rests : goal.returns-clause-rests
returns-clause-rests c = at_rest

pub returns-clause-begins : goal.returns-clause-begins
returns-clause-begins c = rest_has

pub returns-clause-runs : goal.returns-clause-runs
returns-clause-runs c = runs_rest
