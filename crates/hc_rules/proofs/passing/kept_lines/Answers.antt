use Rattle.hc_rules.proofs.PassingLemmas.{kept_fewer, kept_from_stored}
use Rattle.hc_rules.proofs.passing.kept_lines.Goals as goal

pub returns-clause-fewer : goal.returns-clause-fewer
returns-clause-fewer c = kept_fewer

pub returns-clause-stored : goal.returns-clause-stored
returns-clause-stored c = kept_from_stored
