use Rattle.hc_rules.proofs.PassingLemmas.{no_framing_fewer, no_framing_both, no_framing_taken}
use Rattle.hc_rules.proofs.passing.no_framing_stays.Goals as goal

pub returns-clause-fewer : goal.returns-clause-fewer
returns-clause-fewer c = no_framing_fewer

pub returns-clause-both : goal.returns-clause-both
returns-clause-both c = no_framing_both

pub returns-clause-taken_away : goal.returns-clause-taken_away
returns-clause-taken_away c = no_framing_taken
