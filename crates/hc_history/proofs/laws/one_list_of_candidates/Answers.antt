use Rattle.hc_history.proofs.CandidateLemmas.{one_list}
use Rattle.hc_history.proofs.laws.one_list_of_candidates.Goals as goal

pub returns : goal.returns
returns c = one_list
