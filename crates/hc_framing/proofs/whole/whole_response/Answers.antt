use Rattle.std.proofs.Common.{◌∙◌}
use Rattle.hc_framing.proofs.whole.whole_response.Goals as goal

pub returns-clause-found : goal.returns-clause-found
returns-clause-found c = λ message whole. c.in_ok-response-in-Ok.ensures ∙ c.response.ensures ∙ c.in-Ok.ensures.found message whole
