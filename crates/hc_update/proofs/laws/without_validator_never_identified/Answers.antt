use Rattle.hc_update.proofs.UpdateLemmas.{never_identified}
use Rattle.hc_update.proofs.laws.without_validator_never_identified.Goals as goal

pub returns : goal.returns
returns c = never_identified
