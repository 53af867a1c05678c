use Rattle.hc_proxy_prog.proofs.EndLemmas.{unasked_ends}
use Rattle.hc_proxy_prog.proofs.answering.status.Goals as goal

pub returns-in-Err : goal.returns-in-Err
returns-in-Err g c = unasked_ends c.unread.result _ _ _ _ c.unread.ensures
