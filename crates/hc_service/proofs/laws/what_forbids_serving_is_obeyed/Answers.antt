use Rattle.hc_service.proofs.ForbiddenLemmas.{no_cache_forbids, no_cache_asked_forbids, stale_forbids, min_fresh_forbids, max_age_forbids}
use Rattle.hc_service.proofs.laws.what_forbids_serving_is_obeyed.Goals as goal

pub returns-clause-no_cache : goal.returns-clause-no_cache
returns-clause-no_cache c = no_cache_forbids

pub returns-clause-no_cache_of_the_request : goal.returns-clause-no_cache_of_the_request
returns-clause-no_cache_of_the_request c = no_cache_asked_forbids

pub returns-clause-stale : goal.returns-clause-stale
returns-clause-stale c = stale_forbids

pub returns-clause-min_fresh : goal.returns-clause-min_fresh
returns-clause-min_fresh c = min_fresh_forbids

pub returns-clause-max_age : goal.returns-clause-max_age
returns-clause-max_age c = max_age_forbids
