use Rattle.hc_service.proofs.LinkLemmas.{linked_opened, linked_same, linked_out, linked_asked, linked_answered}
use Rattle.hc_service.proofs.laws.open_exchanges_are_those_of_the_connections.Goals as goal

pub returns-clause-opened : goal.returns-clause-opened
returns-clause-opened c = linked_opened

pub returns-clause-same : goal.returns-clause-same
returns-clause-same c = linked_same

pub returns-clause-closed : goal.returns-clause-closed
returns-clause-closed c = linked_out

pub returns-clause-asked : goal.returns-clause-asked
returns-clause-asked c = linked_asked

pub returns-clause-answered : goal.returns-clause-answered
returns-clause-answered c = linked_answered
