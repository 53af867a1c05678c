use Rattle.hc_service.proofs.RunLemmas.{runs_to}
use Rattle.hc_service.proofs.laws.runs_keep_agreement.Goals as goal

pub returns : goal.returns
returns c = runs_to
