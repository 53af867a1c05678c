use Rattle.hc_service.proofs.EntryLemmas.{put_can_reply, freshen_can_reply, collapsed_fit, hit_fit, replacing_fit}
use Rattle.hc_service.proofs.laws.what_is_stored_can_be_a_reply.Goals as goal

pub returns-clause-put : goal.returns-clause-put
returns-clause-put c = put_can_reply

pub returns-clause-freshened : goal.returns-clause-freshened
returns-clause-freshened c = freshen_can_reply

pub returns-clause-hit : goal.returns-clause-hit
returns-clause-hit c = λ wanted stored name can. (hit_fit wanted stored name can).writable

pub returns-clause-replacing : goal.returns-clause-replacing
returns-clause-replacing c = λ wanted why origin stored name told can. (replacing_fit wanted why origin stored name told can).writable

pub returns-clause-shared : goal.returns-clause-shared
returns-clause-shared c = λ wanted stored name can. (collapsed_fit wanted stored name can).writable
