use Rattle.hc_incoming.proofs.ResponseLaws.{one_response, response_goes_on, response_not_failed, response_not_unfinished, one_response_at_end, response_not_failed_at_end}
use Rattle.hc_incoming.proofs.laws.one_response_arrives.Goals as goal

pub returns-clause-one : goal.returns-clause-one
returns-clause-one c = one_response

pub returns-clause-goes_on : goal.returns-clause-goes_on
returns-clause-goes_on c = response_goes_on

pub returns-clause-unfailed : goal.returns-clause-unfailed
returns-clause-unfailed c = response_not_failed

pub returns-clause-finished : goal.returns-clause-finished
returns-clause-finished c = response_not_unfinished

pub returns-clause-one_at_end : goal.returns-clause-one_at_end
returns-clause-one_at_end c = one_response_at_end

pub returns-clause-unfailed_at_end : goal.returns-clause-unfailed_at_end
returns-clause-unfailed_at_end c = response_not_failed_at_end
