use Rattle.hc_core.proofs.StepLemmas.{keeps_agreement}
use Rattle.hc_core.proofs.keeping.steps_keep_agreement.Goals as goal

pub returns : goal.returns
returns c = λ settings event s h result cache good agrees gives.
    keeps_agreement settings event s h result cache (λ actions other. c.events_keep_agreement.ensures settings good event s actions other h agrees)
    (gives (c.agreement_is_ready.ensures s h agrees))
