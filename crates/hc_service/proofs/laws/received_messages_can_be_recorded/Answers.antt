use Rattle.hc_service.proofs.ReceivedLemmas.{received_ask, received_answer}
use Rattle.hc_service.proofs.laws.received_messages_can_be_recorded.Goals as goal

pub returns-clause-request : goal.returns-clause-request
returns-clause-request c = received_ask

pub returns-clause-response : goal.returns-clause-response
returns-clause-response c = received_answer
