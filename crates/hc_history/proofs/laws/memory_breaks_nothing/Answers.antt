use Rattle.hc_history.proofs.VerdictLemmas.{no_memory}
use Rattle.hc_history.proofs.laws.memory_breaks_nothing.Goals as goal

pub returns : goal.returns
returns c = no_memory
