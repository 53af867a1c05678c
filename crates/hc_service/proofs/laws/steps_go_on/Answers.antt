use Rattle.hc_service.proofs.RunLemmas.{steps_append}
use Rattle.hc_service.proofs.laws.steps_go_on.Goals as goal

pub returns : goal.returns
returns c = steps_append
