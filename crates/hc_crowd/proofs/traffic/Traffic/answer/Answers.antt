use Rattle.hc_attended.proofs.KeepingLemmas.{keeps_within, hears_nothing_within}
use Rattle.hc_crowd.proofs.traffic.Traffic.answer.Goals as goal

pub returns-in-Later : goal.returns-in-Later
returns-in-Later g c = record { heard = hears_nothing_within (keeps_within c.keep_waiting.ensures.kept) }

pub returns-in-Over : goal.returns-in-Over
returns-in-Over g c = record { heard = hears_nothing_within (keeps_within c.let_guest_go.ensures.kept) }
