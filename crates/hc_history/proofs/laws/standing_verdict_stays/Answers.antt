use Rattle.hc_history.proofs.VerdictLemmas.{no_stays, malformed_stays}
use Rattle.hc_history.proofs.laws.standing_verdict_stays.Goals as goal

pub returns-clause-no : goal.returns-clause-no
returns-clause-no c = no_stays

pub returns-clause-malformed : goal.returns-clause-malformed
returns-clause-malformed c = malformed_stays
