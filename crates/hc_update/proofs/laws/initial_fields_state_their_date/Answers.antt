use Rattle.hc_update.proofs.UpdateLemmas.{stored_states}
use Rattle.hc_update.proofs.laws.initial_fields_state_their_date.Goals as goal

pub returns : goal.returns
returns c = λ forward request_time response response_time small. stored_states response.head.fields request_time response_time small
