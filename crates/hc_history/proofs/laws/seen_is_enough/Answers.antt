use Rattle.hc_history.proofs.SeenLemmas.{seen_is_enough, nothing_seen}
use Rattle.hc_history.proofs.laws.seen_is_enough.Goals as goal

pub returns : goal.returns
returns c = record { one = seen_is_enough; nothing = nothing_seen }
