use Rattle.hc_attended.proofs.KeepingLemmas.{keeps_then}
use Rattle.hc_crowd.proofs.traffic.Traffic.lose_origins.Goals as goal

pub forwards-preserved : goal.forwards-preserved
forwards-preserved g c = keeps_then c.forwards.invariant c.lose_late.ensures.kept
