use Rattle.hc_order.proofs.TurnByTurnLemmas.{steps_mirror, steps_usual}
use Rattle.hc_order.proofs.laws.what_may_happen_in_turn_is_served.Goals as goal

pub returns-clause-usual : goal.returns-clause-usual
returns-clause-usual c = steps_usual

pub returns-clause-mirrors : goal.returns-clause-mirrors
returns-clause-mirrors c = steps_mirror
