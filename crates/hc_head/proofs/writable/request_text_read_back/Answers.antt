use Rattle.hc_head.proofs.WrittenLemmas.{request_read_back}
use Rattle.hc_head.proofs.writable.request_text_read_back.Goals as goal

pub returns : goal.returns
returns c = request_read_back
