use Rattle.hc_attended.proofs.KeepingLemmas.{hears_nothing}
use Rattle.hc_crowd.proofs.traffic.Traffic.origin_turn.Goals as goal

pub returns-then-has : goal.returns-then-has
returns-then-has g c = record { heard = hears_nothing c.drop_rest_of_origin.ensures.kept }

pub returns-then-can_retry : goal.returns-then-can_retry
returns-then-can_retry g c = record { heard = hears_nothing c.retry.ensures.kept }
