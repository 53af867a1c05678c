use Rattle.hc_update.proofs.UpdateLemmas.{freshened_states}
use Rattle.hc_update.proofs.laws.freshened_fields_state_their_date.Goals as goal

pub returns : goal.returns
returns c = freshened_states
