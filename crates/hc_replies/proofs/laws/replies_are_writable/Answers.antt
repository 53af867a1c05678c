use Rattle.hc_replies.proofs.WritableLemmas.{forwarded_writable, stored_writable, not_modified_writable, generated_writable}
use Rattle.hc_replies.proofs.laws.replies_are_writable.Goals as goal

pub returns-clause-forwarded : goal.returns-clause-forwarded
returns-clause-forwarded c = forwarded_writable

pub returns-clause-stored : goal.returns-clause-stored
returns-clause-stored c = stored_writable

pub returns-clause-not_modified : goal.returns-clause-not_modified
returns-clause-not_modified c = not_modified_writable

pub returns-clause-generated : goal.returns-clause-generated
returns-clause-generated c = generated_writable
