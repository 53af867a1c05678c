use Rattle.hc_transcript.proofs.ConvertLemmas.{converted_transcript}
use Rattle.hc_transcript.proofs.laws.converted_is_a_transcript.Goals as goal

pub returns : goal.returns
returns c = converted_transcript
