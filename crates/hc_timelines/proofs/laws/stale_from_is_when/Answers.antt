use Rattle.hc_timelines.proofs.StandingLemmas.{is_when}
use Rattle.hc_timelines.proofs.laws.stale_from_is_when.Goals as goal

pub returns : goal.returns
returns c = is_when
