use Rattle.hc_history.proofs.WrongLemmas.{one_list}
use Rattle.hc_history.proofs.laws.one_list_of_wrong_replies.Goals as goal

pub returns : goal.returns
returns c = one_list
