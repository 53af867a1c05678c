use Rattle.hc_attended.proofs.KeepingLemmas.{keeps_then}
use Rattle.hc_crowd.proofs.traffic.Traffic.drop_all_lingering.Goals as goal

pub lingering-preserved : goal.lingering-preserved
lingering-preserved g c = keeps_then c.lingering.invariant c.drop_lingering.ensures.kept
