use Rattle.hc_incoming.proofs.RequestLaws.{one_request, request_goes_on, request_not_refused, request_not_unfinished, failed_not_unfinished}
use Rattle.hc_incoming.proofs.laws.one_request_arrives.Goals as goal

pub returns-clause-one : goal.returns-clause-one
returns-clause-one c = one_request

pub returns-clause-goes_on : goal.returns-clause-goes_on
returns-clause-goes_on c = request_goes_on

pub returns-clause-unrefused : goal.returns-clause-unrefused
returns-clause-unrefused c = request_not_refused

pub returns-clause-finished : goal.returns-clause-finished
returns-clause-finished c = request_not_unfinished

pub returns-clause-tested : goal.returns-clause-tested
returns-clause-tested c = failed_not_unfinished
