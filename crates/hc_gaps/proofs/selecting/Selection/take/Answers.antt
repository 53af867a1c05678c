use Rattle.std.proofs.Common.{rules, arith, refl, ap, sym, not, ◌∙◌}
use Rattle.hc_gaps.proofs.UnmetLemmas.{counted, passed_over, taken}
use Rattle.hc_gaps.proofs.selecting.Selection.take.Goals as goal

pub returns-then-branch : goal.returns-then-branch
returns-then-branch c = λ members are.
    passed_over c.args.claim.now c.args.state.now members c.args.member.now c.args.self.now (sym c.in_ok-is_met_or_normalized.ensures ∙ c.if-branch.true) are

pub returns-then-len-ge-NAMED : goal.returns-then-len-ge-NAMED
returns-then-len-ge-NAMED c = λ members are.
    counted c.args.claim.now c.args.state.now members c.args.member.now c.args.self.now _ (ap not (sym c.in_ok-is_met_or_normalized.ensures ∙ c.if-branch.false))
    (omega (arith, c.if-len-ge-NAMED.true, c.len.ensures, c.args.self.now.unmet.ok.0)) refl c.saturating_add-self.ensures are

pub returns : goal.returns
returns c = λ members are.
    taken c.args.claim.now c.args.state.now members c.args.member.now c.args.self.now _ _ (ap not (sym c.in_ok-is_met_or_normalized.ensures ∙ c.if-branch.false))
    (omega (arith, c.if-len-ge-NAMED.false, c.len.ensures, c.args.self.now.unmet.ok.0)) c.in_ok-push.ensures.items refl (search rules) are
