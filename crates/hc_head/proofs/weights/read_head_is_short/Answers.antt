use Rattle.hc_head.proofs.WeightLemmas.{request_short, response_short}
use Rattle.hc_head.proofs.weights.read_head_is_short.Goals as goal

pub returns-clause-request : goal.returns-clause-request
returns-clause-request c = request_short

pub returns-clause-response : goal.returns-clause-response
returns-clause-response c = response_short
