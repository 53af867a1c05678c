use Rattle.hc_history.proofs.ForgetLemmas.{remaining_answered}
use Rattle.hc_history.proofs.laws.forgetting_and_noting_commute.Goals as goal

pub returns : goal.returns
returns c = remaining_answered
