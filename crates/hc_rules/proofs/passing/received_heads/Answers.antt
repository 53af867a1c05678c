use Rattle.hc_rules.proofs.PassingLemmas.{received_request, received_response, received_fewer, received_lines, received_without_framing}
use Rattle.hc_rules.proofs.passing.received_heads.Goals as goal

pub returns-clause-request : goal.returns-clause-request
returns-clause-request c = received_request

pub returns-clause-response : goal.returns-clause-response
returns-clause-response c = received_response

pub returns-clause-fewer : goal.returns-clause-fewer
returns-clause-fewer c = received_fewer

pub returns-clause-lines : goal.returns-clause-lines
returns-clause-lines c = received_lines

pub returns-clause-without_framing : goal.returns-clause-without_framing
returns-clause-without_framing c = received_without_framing
