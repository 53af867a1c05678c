use Rattle.hc_replies.proofs.ReplyLemmas.{forwarded_marked, stored_marked, not_modified_marked, generated_unmarked}
use Rattle.hc_replies.proofs.laws.replies_have_their_marks.Goals as goal

pub returns-clause-forwarded : goal.returns-clause-forwarded
returns-clause-forwarded c = forwarded_marked

pub returns-clause-stored : goal.returns-clause-stored
returns-clause-stored c = stored_marked

pub returns-clause-not_modified : goal.returns-clause-not_modified
returns-clause-not_modified c = not_modified_marked

pub returns-clause-generated : goal.returns-clause-generated
returns-clause-generated c = generated_unmarked
