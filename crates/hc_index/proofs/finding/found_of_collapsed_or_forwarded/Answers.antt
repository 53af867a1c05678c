use Rattle.std.proofs.Common.{Bool, true, false, sym, ap, ◌∙◌, ◌&&◌, not}
use Rattle.hc_history.specs.Forwarded.{is_forwarded}
use Rattle.hc_history.proofs.FoundLemmas.{found_forwarded}
use Rattle.hc_index.proofs.finding.found_of_collapsed_or_forwarded.Goals as goal

pub returns-then-is_judged_collapsed : goal.returns-then-is_judged_collapsed
returns-then-is_judged_collapsed c = λ h lives carried.
    found_forwarded c.args.collapsed true c.args.claim.now h _ (sym c.is_judged_collapsed.ensures ∙ c.if-is_judged_collapsed.true) (c.found_of_collapsed_among.ensures h lives)

pub returns : goal.returns
returns c = λ h lives carried.
    let alone = sym c.is_judged_collapsed.ensures ∙ c.if-is_judged_collapsed.false in
    found_forwarded c.args.collapsed false c.args.claim.now h _ alone
    (c.found_of_forwarded_among.ensures h lives (sym (ap (λ (b : Bool). not b && is_forwarded c.args.claim.now h) alone) ∙ carried))
