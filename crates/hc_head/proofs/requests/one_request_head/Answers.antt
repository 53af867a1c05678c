use Rattle.hc_head.specs.Laws.{request_unique}
use Rattle.hc_head.proofs.requests.one_request_head.Goals as goal

pub returns : goal.returns
returns c = request_unique
