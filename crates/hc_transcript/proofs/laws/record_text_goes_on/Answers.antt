use Rattle.hc_transcript.proofs.OnceLemmas.{one_more}
use Rattle.hc_transcript.proofs.laws.record_text_goes_on.Goals as goal

pub returns : goal.returns
returns c = one_more
