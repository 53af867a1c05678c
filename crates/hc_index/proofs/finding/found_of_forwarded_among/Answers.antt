use Rattle.std.proofs.Common.{ap, sym, inl, arith, ◌∙◌}
use Rattle.hc_history.specs.Claims.{Claim}
use Rattle.hc_history.proofs.StoredLemmas.{stored_found}
use Rattle.hc_index.proofs.finding.found_of_forwarded_among.Goals as goal

pub returns-then-carried : goal.returns-then-carried
returns-then-carried c = λ h lives carried. inl (carried ∙ c.if-carried.true)

pub returns-then-claim : goal.returns-then-claim
returns-then-claim c = λ h lives carried.
    c.found_of_inferred_among.ensures h lives (ap (λ (k : Claim). k.is_inferred) (sym c.claim.view_is) ∙ c.if-claim.true) (carried ∙ c.if-carried.false)

pub returns-then-passed-ge-FORWARDED_COUNT : goal.returns-then-passed-ge-FORWARDED_COUNT
returns-then-passed-ge-FORWARDED_COUNT c = λ h lives carried.
    let most = (c.in_ok-passed.ensures h lives).at_most in
    stored_found c.args.claim.now h (ap (λ (k : Claim). k.is_inferred) (sym c.claim.view_is) ∙ c.if-claim.false) (omega (arith, most, c.if-passed-ge-FORWARDED_COUNT.true))

pub returns : goal.returns
returns c = λ h lives carried.
    c.found_of_forwarded.ensures c.args.claim.now h (ap (λ (k : Claim). k.is_inferred) (sym c.claim.view_is) ∙ c.if-claim.false) (carried ∙ c.if-carried.false)
    ((c.in_ok-passed.ensures h lives).less_is_most (omega (arith, c.if-passed-ge-FORWARDED_COUNT.false)))
