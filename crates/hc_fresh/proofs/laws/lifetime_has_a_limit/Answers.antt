use Rattle.hc_fresh.proofs.LimitLemmas.{lifetime_small}
use Rattle.hc_fresh.proofs.laws.lifetime_has_a_limit.Goals as goal

pub returns : goal.returns
returns c = lifetime_small
