use Rattle.hc_rules.proofs.PassingLemmas.{plain_request_writable, plain_response_writable, light_request_writable, light_response_writable}
use Rattle.hc_rules.proofs.passing.plain_head_is_writable.Goals as goal

pub returns-clause-request : goal.returns-clause-request
returns-clause-request c = plain_request_writable

pub returns-clause-response : goal.returns-clause-response
returns-clause-response c = plain_response_writable

pub returns-clause-request_by_weight : goal.returns-clause-request_by_weight
returns-clause-request_by_weight c = light_request_writable

pub returns-clause-response_by_weight : goal.returns-clause-response_by_weight
returns-clause-response_by_weight c = light_response_writable
