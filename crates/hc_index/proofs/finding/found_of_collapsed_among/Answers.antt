use Rattle.std.proofs.Common.{arith}
use Rattle.hc_history.specs.declared.among.Among.TheVariants.{InWindow}
use Rattle.hc_history.specs.Reused.{collapsed_count}
use Rattle.hc_history.proofs.FurthestLemmas.{Pass-found}
use Rattle.hc_index.proofs.finding.found_of_collapsed_among.Goals as goal

pub returns-then-passed-ge-COLLAPSED_COUNT : goal.returns-then-passed-ge-COLLAPSED_COUNT
returns-then-passed-ge-COLLAPSED_COUNT c = λ h lives.
    let most = (c.in_ok-passed.ensures h lives).at_most in
    Pass-found collapsed_count InWindow c.args.claim.now h (omega arith) (omega (arith, most, c.if-passed-ge-COLLAPSED_COUNT.true))

pub returns : goal.returns
returns c = λ h lives.
    c.found_of_collapsed.ensures c.args.claim.now h ((c.in_ok-passed.ensures h lives).less_is_most (omega (arith, c.if-passed-ge-COLLAPSED_COUNT.false)))
