use Rattle.hc_replies.proofs.ReplyLemmas.{stored_age_told, not_modified_age_told, number_read_back}
use Rattle.hc_replies.proofs.laws.replies_tell_their_age.Goals as goal

pub returns-clause-stored : goal.returns-clause-stored
returns-clause-stored c = stored_age_told

pub returns-clause-not_modified : goal.returns-clause-not_modified
returns-clause-not_modified c = not_modified_age_told

pub returns-clause-read_back : goal.returns-clause-read_back
returns-clause-read_back c = number_read_back
