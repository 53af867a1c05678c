use Rattle.hc_transcript.proofs.ConvertLemmas.{converted_itself}
use Rattle.hc_transcript.proofs.laws.first_format_is_converted_to_itself.Goals as goal

pub returns : goal.returns
returns c = converted_itself
