use Rattle.hc_head.specs.Laws.{response_unique}
use Rattle.hc_head.proofs.responses.one_response_head.Goals as goal

pub returns : goal.returns
returns c = response_unique
