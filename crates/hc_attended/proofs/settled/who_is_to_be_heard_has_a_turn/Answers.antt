use Rattle.hc_attended.proofs.SettledLemmas.{client_has_a_turn, forward_has_a_turn}
use Rattle.hc_attended.proofs.settled.who_is_to_be_heard_has_a_turn.Goals as goal

pub returns-clause-client : goal.returns-clause-client
returns-clause-client g c = client_has_a_turn

pub returns-clause-forward : goal.returns-clause-forward
returns-clause-forward g c = forward_has_a_turn
