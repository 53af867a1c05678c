use Rattle.hc_order.proofs.PassageLemmas.{client_is_open, origin_is_open}
use Rattle.hc_order.proofs.passages.passages_tell_what_is_open.Goals as goal

pub returns-clause-clients : goal.returns-clause-clients
returns-clause-clients c = client_is_open

pub returns-clause-forwards : goal.returns-clause-forwards
returns-clause-forwards c = origin_is_open
