use Rattle.hc_rules.proofs.PassingLemmas.{no_name_fewer, no_name_both, no_name_taken, no_name_refused}
use Rattle.hc_rules.proofs.passing.no_name_stays.Goals as goal

pub returns-clause-fewer : goal.returns-clause-fewer
returns-clause-fewer c = no_name_fewer

pub returns-clause-both : goal.returns-clause-both
returns-clause-both c = no_name_both

pub returns-clause-taken_away : goal.returns-clause-taken_away
returns-clause-taken_away c = no_name_taken

pub returns-clause-refused : goal.returns-clause-refused
returns-clause-refused c = no_name_refused
