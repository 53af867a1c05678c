use Rattle.std.proofs.Common.{refl, arith}
use Rattle.hc_history.specs.declared.among.Among.TheVariants.{InWindow}
use Rattle.hc_history.specs.Reused.{collapsed_count}
use Rattle.hc_history.proofs.FurthestLemmas.{Pass-only, passes}
use Rattle.hc_history.proofs.finding.found_of_collapsed.Goals as goal

pub returns-then-passed-ge-COLLAPSED_COUNT : goal.returns-then-passed-ge-COLLAPSED_COUNT
returns-then-passed-ge-COLLAPSED_COUNT c = λ claim h is.
    passes InWindow claim h c.args.passed collapsed_count is (omega arith) c.if-passed-ge-COLLAPSED_COUNT.true

pub returns-else-passed-ge-COLLAPSED_COUNT : goal.returns-else-passed-ge-COLLAPSED_COUNT
returns-else-passed-ge-COLLAPSED_COUNT c = λ claim h is.
    (refl, λ pass. omega (arith, is, c.if-passed-ge-COLLAPSED_COUNT.false, Pass-only collapsed_count InWindow claim h (omega arith) pass))
