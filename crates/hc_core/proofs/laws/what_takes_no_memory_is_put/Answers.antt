use Rattle.hc_core.proofs.OnceLemmas.{no_cookie_put, put_without_growth, put_once}
use Rattle.hc_core.proofs.laws.what_takes_no_memory_is_put.Goals as goal

pub returns-clause-put : goal.returns-clause-put
returns-clause-put c = put_without_growth

pub returns-clause-cookie : goal.returns-clause-cookie
returns-clause-cookie c = no_cookie_put

pub returns-clause-one : goal.returns-clause-one
returns-clause-one c = put_once
