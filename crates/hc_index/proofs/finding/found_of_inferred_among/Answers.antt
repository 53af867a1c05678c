use Rattle.std.proofs.Common.{arith}
use Rattle.hc_history.proofs.StoredLemmas.{recent_found}
use Rattle.hc_index.proofs.FindLemmas.{all_are_most}
use Rattle.hc_index.proofs.finding.found_of_inferred_among.Goals as goal

pub returns-then-recent-ge-FORWARDED_COUNT : goal.returns-then-recent-ge-FORWARDED_COUNT
returns-then-recent-ge-FORWARDED_COUNT c = λ h lives inferred none.
    let most = (c.in_ok-recent.ensures h lives).at_most in
    recent_found c.args.claim.now h inferred (omega (arith, most, c.if-recent-ge-FORWARDED_COUNT.true))

pub returns : goal.returns
returns c = λ h lives inferred none.
    c.found_of_inferred.ensures c.args.claim.now h inferred none
    (all_are_most c.args.claim.now c.args.lives.now c.in_ok-passed.passed h lives (c.in_ok-passed.ensures h lives))
    ((c.in_ok-recent.ensures h lives).less_is_most (omega (arith, c.if-recent-ge-FORWARDED_COUNT.false)))
