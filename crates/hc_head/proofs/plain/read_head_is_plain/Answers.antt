use Rattle.hc_head.proofs.WrittenLemmas.{begun_request_plain, begun_response_plain}
use Rattle.hc_head.proofs.plain.read_head_is_plain.Goals as goal

pub returns-clause-request : goal.returns-clause-request
returns-clause-request c = begun_request_plain

pub returns-clause-response : goal.returns-clause-response
returns-clause-response c = begun_response_plain
