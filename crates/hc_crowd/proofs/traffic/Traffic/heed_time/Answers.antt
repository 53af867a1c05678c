use Rattle.hc_attended.proofs.KeepingLemmas.{keeps_then}
use Rattle.hc_crowd.proofs.traffic.Traffic.heed_time.Goals as goal

pub returns-then-self-until : goal.returns-then-self-until
returns-then-self-until g c = record { kept = keeps_then (keeps_then (keeps_then (keeps_then c.let_all_guests_go.ensures.kept c.drop_all_turned_away.ensures.kept) c.drop_all_lingering.ensures.kept) c.lose_origins.ensures.kept) c.hear_clients.ensures.kept }
