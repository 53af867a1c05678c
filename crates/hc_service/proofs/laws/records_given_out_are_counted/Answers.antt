use Rattle.hc_service.proofs.RunLemmas.{event_counts}
use Rattle.hc_service.proofs.laws.records_given_out_are_counted.Goals as goal

pub returns : goal.returns
returns c = event_counts
