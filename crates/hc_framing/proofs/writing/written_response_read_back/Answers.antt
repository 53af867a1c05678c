use Rattle.hc_framing.proofs.TextLemmas.{response_begins, response_alone}
use Rattle.hc_framing.proofs.writing.written_response_read_back.Goals as goal

pub returns : goal.returns
returns c = record { begins = response_begins; alone = response_alone }
