use Rattle.hc_service.proofs.EventLemmas.{agreement_ready}
use Rattle.hc_service.proofs.laws.agreement_is_ready.Goals as goal

pub returns : goal.returns
returns c = agreement_ready
