use Rattle.std.proofs.Common.{◌∙◌}
use Rattle.hc_framing.proofs.whole.whole_request.Goals as goal

pub returns-clause-found : goal.returns-clause-found
returns-clause-found c = λ message whole. c.in_ok-request-in-Ok.ensures ∙ c.request.ensures ∙ c.in-Ok.ensures.found message whole
