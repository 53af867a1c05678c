use Rattle.hc_fresh.proofs.LimitLemmas.{age_value_small}
use Rattle.hc_fresh.proofs.laws.age_value_has_a_limit.Goals as goal

pub returns : goal.returns
returns c = age_value_small
