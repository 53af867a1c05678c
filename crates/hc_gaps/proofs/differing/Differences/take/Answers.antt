use Rattle.std.proofs.Common.{arith, refl, sym, ◌∙◌}
use Rattle.hc_gaps.proofs.NameLemmas.{counted, passed_over, taken}
use Rattle.hc_gaps.proofs.differing.Differences.take.Goals as goal

pub returns-then-not-branch : goal.returns-then-not-branch
returns-then-not-branch c = λ names are.
    passed_over c.args.claim.now c.args.state.now names c.args.name.now c.args.self.now (sym c.in_ok-differs.ensures ∙ c.if-not-branch.true) are

pub returns-then-len-ge-MOST_LISTED : goal.returns-then-len-ge-MOST_LISTED
returns-then-len-ge-MOST_LISTED c = λ names are.
    counted c.args.claim.now c.args.state.now names c.args.name.now c.args.self.now _ _ _ _ (sym c.in_ok-differs.ensures ∙ c.if-not-branch.false)
    (omega (arith, c.if-len-ge-MOST_LISTED.true, c.len.ensures, c.args.self.now.listed.ok.0)) refl c.saturating_add-self.ensures
    c.change_of-change.ensures c.in_ok-freedom.ensures c.is_nothing.ensures c.gravest-self.ensures are

pub returns : goal.returns
returns c = λ names are.
    taken c.args.claim.now c.args.state.now names c.args.name.now c.args.self.now _ _ (sym c.in_ok-differs.ensures ∙ c.if-not-branch.false)
    (omega (arith, c.if-len-ge-MOST_LISTED.false, c.len.ensures, c.args.self.now.listed.ok.0))
    c.in_ok-push.ensures.items refl refl c.in_ok-from_slice.ensures c.change_of-change.ensures c.in_ok-freedom.ensures are
