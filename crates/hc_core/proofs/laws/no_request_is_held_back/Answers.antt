use Rattle.hc_core.proofs.OnceLemmas.{none_held_back}
use Rattle.hc_core.proofs.laws.no_request_is_held_back.Goals as goal

pub returns : goal.returns
returns c = none_held_back
