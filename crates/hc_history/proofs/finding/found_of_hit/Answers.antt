use Rattle.std.proofs.Common.{arith}
use Rattle.hc_history.specs.declared.among.Among.TheVariants.{Any}
use Rattle.hc_history.specs.Reused.{filter_count}
use Rattle.hc_history.proofs.FurthestLemmas.{failed_for, passes}
use Rattle.hc_history.proofs.finding.found_of_hit.Goals as goal

pub returns-in-Some : goal.returns-in-Some
returns-in-Some c = λ ttl claim h is. failed_for claim h c.args.passed c.in-Some.why is c.in-Some.ensures.0 c.in-Some.ensures.1

pub returns-in-None : goal.returns-in-None
returns-in-None c = λ ttl claim h is. passes Any claim h c.args.passed filter_count is (omega arith) c.in-None.ensures
