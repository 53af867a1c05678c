use Rattle.hc_transcript.proofs.OnceLemmas.{broken_more, no_opening_more}
use Rattle.hc_transcript.proofs.laws.broken_for_ever.Goals as goal

pub returns : goal.returns
returns c = record { behind = broken_more; opening = no_opening_more }
