use Rattle.hc_head.proofs.WeightLemmas.{length-request, length-response, weight_size, weight_longest}
use Rattle.hc_head.proofs.weights.written_head_length.Goals as goal

pub returns-clause-request : goal.returns-clause-request
returns-clause-request c = length-request

pub returns-clause-response : goal.returns-clause-response
returns-clause-response c = length-response

pub returns-clause-size : goal.returns-clause-size
returns-clause-size c = weight_size

pub returns-clause-longest : goal.returns-clause-longest
returns-clause-longest c = weight_longest
