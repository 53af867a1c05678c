use Rattle.hc_history.proofs.StateLemmas.{update_freshens, freshened_valid}
use Rattle.hc_history.proofs.laws.later_update_clears_the_mark.Goals as goal

pub returns-clause-freshens : goal.returns-clause-freshens
returns-clause-freshens c = update_freshens

pub returns-clause-clears : goal.returns-clause-clears
returns-clause-clears c = freshened_valid
