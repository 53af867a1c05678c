use Rattle.std.proofs.Common.{refl}
use Rattle.hc_history.proofs.StoredLemmas.{carries_nothing, carries_stored}
use Rattle.hc_history.proofs.finding.found_of_forwarded.Goals as goal

pub returns-then-passed-ge-FORWARDED_COUNT : goal.returns-then-passed-ge-FORWARDED_COUNT
returns-then-passed-ge-FORWARDED_COUNT c = λ claim h told none is. carries_stored claim h told c.args.passed is c.if-passed-ge-FORWARDED_COUNT.true

pub returns-else-passed-ge-FORWARDED_COUNT : goal.returns-else-passed-ge-FORWARDED_COUNT
returns-else-passed-ge-FORWARDED_COUNT c = λ claim h told none is. (refl, (none, carries_nothing claim h told c.args.passed is c.if-passed-ge-FORWARDED_COUNT.false))
