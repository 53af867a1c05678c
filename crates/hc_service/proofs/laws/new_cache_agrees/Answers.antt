use Rattle.hc_service.proofs.BeginLemmas.{new_agrees}
use Rattle.hc_service.proofs.laws.new_cache_agrees.Goals as goal

pub returns : goal.returns
returns c = new_agrees
