use Rattle.hc_head.proofs.PlainLemmas.{plain_fewer, plain_both}
use Rattle.hc_head.proofs.plain.plain_fields_stay_plain.Goals as goal

pub returns-clause-fewer : goal.returns-clause-fewer
returns-clause-fewer c = plain_fewer

pub returns-clause-both : goal.returns-clause-both
returns-clause-both c = plain_both
