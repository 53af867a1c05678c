use Rattle.hc_replies.proofs.ReplyLemmas.{stored_values, repeated_values, no_other_values}
use Rattle.hc_replies.proofs.laws.replies_have_the_stored_values.Goals as goal

pub returns-clause-stored : goal.returns-clause-stored
returns-clause-stored c = stored_values

pub returns-clause-repeated : goal.returns-clause-repeated
returns-clause-repeated c = repeated_values

pub returns-clause-no_other : goal.returns-clause-no_other
returns-clause-no_other c = no_other_values
