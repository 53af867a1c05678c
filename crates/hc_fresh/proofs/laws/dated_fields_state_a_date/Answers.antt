use Rattle.hc_fresh.proofs.DateLineLemmas.{dated_states}
use Rattle.hc_fresh.proofs.laws.dated_fields_state_a_date.Goals as goal

pub returns : goal.returns
returns c = dated_states
