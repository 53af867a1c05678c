use Rattle.hc_history.proofs.VerdictLemmas.{one_verdict}
use Rattle.hc_history.proofs.laws.one_verdict.Goals as goal

pub returns : goal.returns
returns c = one_verdict
