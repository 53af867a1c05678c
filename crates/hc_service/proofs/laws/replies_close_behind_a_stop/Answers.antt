use Rattle.hc_service.proofs.StoppingLemmas.{event_closes, event_stops, wants_last}
use Rattle.hc_service.proofs.laws.replies_close_behind_a_stop.Goals as goal

pub returns : goal.returns
returns c = record { stops = event_stops; closes = event_closes; says = wants_last }
