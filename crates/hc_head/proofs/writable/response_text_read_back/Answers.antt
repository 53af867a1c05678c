use Rattle.hc_head.proofs.WrittenLemmas.{response_read_back}
use Rattle.hc_head.proofs.writable.response_text_read_back.Goals as goal

pub returns : goal.returns
returns c = response_read_back
