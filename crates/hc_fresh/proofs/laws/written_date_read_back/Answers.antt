use Rattle.hc_fresh.proofs.DateLemmas.{written_read_back}
use Rattle.hc_fresh.proofs.laws.written_date_read_back.Goals as goal

pub returns : goal.returns
returns c = written_read_back
