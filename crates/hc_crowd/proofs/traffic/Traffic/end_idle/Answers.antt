use Rattle.hc_attended.proofs.KeepingLemmas.{keeps_then}
use Rattle.hc_crowd.proofs.traffic.Traffic.end_idle.Goals as goal

pub returns-then-self-idle_until : goal.returns-then-self-idle_until
returns-then-self-idle_until g c = record { kept = keeps_then c.let_all_knock.ensures.kept c.hear_clients.ensures.kept }
