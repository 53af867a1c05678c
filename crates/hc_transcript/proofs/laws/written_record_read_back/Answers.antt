use Rattle.hc_transcript.proofs.WrittenLemmas.{read_back}
use Rattle.hc_transcript.proofs.laws.written_record_read_back.Goals as goal

pub returns : goal.returns
returns c = read_back
