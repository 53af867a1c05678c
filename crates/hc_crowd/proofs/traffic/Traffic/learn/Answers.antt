use Rattle.hc_attended.proofs.KeepingLemmas.{keeps_then}
use Rattle.hc_crowd.proofs.traffic.Traffic.learn.Goals as goal

pub returns-in-Client : goal.returns-in-Client
returns-in-Client g c = record { kept = keeps_then c.learn_of_client.ensures.kept c.note_leaving.ensures.kept }

pub returns-in-Origin : goal.returns-in-Origin
returns-in-Origin g c = record { kept = keeps_then c.learn_of_forward.ensures.kept c.give_lingering_turn.ensures.kept }
