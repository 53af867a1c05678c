use Rattle.hc_attended.proofs.KeepingLemmas.{keeps_then}
use Rattle.hc_crowd.proofs.traffic.Traffic.learn_all.Goals as goal

pub ready-preserved : goal.ready-preserved
ready-preserved g c = keeps_then c.ready.invariant c.take_in.ensures.kept
