use Rattle.hc_fresh.proofs.LimitLemmas.{stays_stale}
use Rattle.hc_fresh.proofs.laws.stale_response_stays_stale.Goals as goal

pub returns : goal.returns
returns c = stays_stale
