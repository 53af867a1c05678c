use Rattle.std.proofs.Common.{sym, subst, IfOk}
use Rattle.hc_status.specs.declared.marks.Mark.{Mark}
use Rattle.hc_history.specs.Right.{IsFoundBy}
use Rattle.hc_index.proofs.finding.found_by.Goals as goal

pub returns-in-Hit : goal.returns-in-Hit
returns-in-Hit c = λ h lives window.
    subst (λ (mark : Mark). IfOk c.found_of_hit_among.result (IsFoundBy mark c.args.claim.now h)) (sym c.in-Hit.is)
    (c.found_of_hit_among.ensures c.in-Hit.ttl h lives)

pub returns-in-Unmarked : goal.returns-in-Unmarked
returns-in-Unmarked c = λ h lives window.
    subst (λ (mark : Mark). IsFoundBy mark c.args.claim.now h c.found_of_unmarked.result) (sym c.in-Unmarked.is)
    (c.found_of_unmarked.ensures h)
