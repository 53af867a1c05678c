use Rattle.hc_attended.proofs.KeepingLemmas.{keeps_then}
use Rattle.hc_crowd.proofs.traffic.Traffic.drop_all_turned_away.Goals as goal

pub turned_away-preserved : goal.turned_away-preserved
turned_away-preserved g c = keeps_then c.turned_away.invariant c.drop_turned_away.ensures.kept
