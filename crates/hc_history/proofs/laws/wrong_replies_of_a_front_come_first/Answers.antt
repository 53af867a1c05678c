use Rattle.hc_history.proofs.WrongLemmas.{front_comes_first}
use Rattle.hc_history.proofs.laws.wrong_replies_of_a_front_come_first.Goals as goal

pub returns : goal.returns
returns c = front_comes_first
