use Rattle.hc_order.proofs.RestLemmas.{before_rests, empty_mirrors, new_mirrors}
use Rattle.hc_order.proofs.laws.a_new_cache_mirrors_what_is_before.Goals as goal

pub returns-clause-mirrors : goal.returns-clause-mirrors
returns-clause-mirrors c = new_mirrors

pub returns-clause-rests : goal.returns-clause-rests
returns-clause-rests c = before_rests

pub returns-clause-empty : goal.returns-clause-empty
returns-clause-empty c = empty_mirrors
