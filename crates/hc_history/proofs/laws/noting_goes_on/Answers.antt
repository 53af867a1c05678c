use Rattle.hc_history.proofs.NoteLemmas.{noted}
use Rattle.hc_history.proofs.laws.noting_goes_on.Goals as goal

pub returns : goal.returns
returns c = noted
