use Rattle.hc_service.proofs.UnreadLemmas.{received_from_client, read_request, received_from_origin}
use Rattle.hc_service.proofs.laws.unread_octets_are_those_that_came.Goals as goal

pub returns-clause-client_octets : goal.returns-clause-client_octets
returns-clause-client_octets c = received_from_client

pub returns-clause-request : goal.returns-clause-request
returns-clause-request c = read_request

pub returns-clause-origin_octets : goal.returns-clause-origin_octets
returns-clause-origin_octets c = received_from_origin
