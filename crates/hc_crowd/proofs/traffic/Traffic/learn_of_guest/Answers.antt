use Rattle.hc_attended.proofs.KeepingLemmas.{keeps_then}
use Rattle.hc_crowd.proofs.traffic.Traffic.learn_of_guest.Goals as goal

pub returns : goal.returns
returns g c = record { kept = keeps_then c.knock.ensures.kept c.drop_rest_of_guest.ensures.kept }
