use Rattle.hc_attended.proofs.KeepingLemmas.{keeps_then}
use Rattle.hc_crowd.proofs.traffic.Traffic.let_all_guests_go.Goals as goal

pub guests-preserved : goal.guests-preserved
guests-preserved g c = keeps_then c.guests.invariant c.let_guest_go.ensures.kept
