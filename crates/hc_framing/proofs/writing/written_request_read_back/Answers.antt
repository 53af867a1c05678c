use Rattle.hc_framing.proofs.TextLemmas.{request_begins, request_alone}
use Rattle.hc_framing.proofs.writing.written_request_read_back.Goals as goal

pub returns : goal.returns
returns c = record { begins = request_begins; alone = request_alone }
