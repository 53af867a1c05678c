use Rattle.hc_replies.proofs.WritableLemmas.{forwarded_no_framing, stored_no_framing, not_modified_no_framing, generated_no_framing}
use Rattle.hc_replies.proofs.laws.replies_frame_no_body.Goals as goal

pub returns-clause-forwarded : goal.returns-clause-forwarded
returns-clause-forwarded c = forwarded_no_framing

pub returns-clause-stored : goal.returns-clause-stored
returns-clause-stored c = stored_no_framing

pub returns-clause-not_modified : goal.returns-clause-not_modified
returns-clause-not_modified c = not_modified_no_framing

pub returns-clause-generated : goal.returns-clause-generated
returns-clause-generated c = generated_no_framing
