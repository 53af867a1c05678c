use Rattle.hc_transcript.proofs.OnceLemmas.{one_opening, one, front}
use Rattle.hc_transcript.proofs.laws.one_transcript.Goals as goal

pub returns : goal.returns
returns c = record { format = one_opening; one = one; front = front }
