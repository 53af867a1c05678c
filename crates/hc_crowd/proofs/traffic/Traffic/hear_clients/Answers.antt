use Rattle.hc_attended.proofs.KeepingLemmas.{keeps_then}
use Rattle.hc_crowd.proofs.traffic.Traffic.hear_clients.Goals as goal

pub clients-preserved : goal.clients-preserved
clients-preserved g c = keeps_then c.clients.invariant c.give_turn.ensures.kept
