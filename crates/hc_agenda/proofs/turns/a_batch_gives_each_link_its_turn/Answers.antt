use Rattle.hc_agenda.proofs.TurnLemmas.{each_has_its_turn, in_their_order, none_has_more}
use Rattle.hc_agenda.proofs.turns.a_batch_gives_each_link_its_turn.Goals as goal

pub returns-clause-each : goal.returns-clause-each
returns-clause-each c = each_has_its_turn

pub returns-clause-no_more : goal.returns-clause-no_more
returns-clause-no_more c = none_has_more

pub returns-clause-in_order : goal.returns-clause-in_order
returns-clause-in_order c = in_their_order
