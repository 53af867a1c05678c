use Rattle.hc_head.proofs.WeightLemmas.{weight_first, weight_both, weight_fewer, weight_written}
use Rattle.hc_head.proofs.weights.weights_add_up.Goals as goal

pub returns-clause-first : goal.returns-clause-first
returns-clause-first c = weight_first

pub returns-clause-both : goal.returns-clause-both
returns-clause-both c = weight_both

pub returns-clause-fewer : goal.returns-clause-fewer
returns-clause-fewer c = weight_fewer

pub returns-clause-written : goal.returns-clause-written
returns-clause-written c = weight_written
