use Rattle.std.proofs.Common.{ap, drop, ◌∙◌}
use Rattle.hc_history.proofs.PartLemmas.{before_is, behind_is, nothing_before, nothing_behind}
use Rattle.hc_history.proofs.ranges.parted_at.Goals as goal

pub returns-then-one-octet-clause-before : goal.returns-then-one-octet-clause-before
returns-then-one-octet-clause-before c =
    c.split_at.ensures.front ∙ before_is c.args.octet c.args.text.now c.loop-at.at c.loop-at.invariant c.loop-at-test.true c.if-one-octet.true

pub returns-then-one-octet-clause-behind : goal.returns-then-one-octet-clause-behind
returns-then-one-octet-clause-behind c =
    c.split_at-then-one-octet.ensures.back ∙ ap (drop 1) c.split_at.ensures.back
    ∙ behind_is c.args.octet c.args.text.now c.loop-at.at c.loop-at.invariant c.loop-at-test.true c.if-one-octet.true

pub returns-clause-before : goal.returns-clause-before
returns-clause-before c = nothing_before c.args.octet c.args.text.now c.loop-at.at c.loop-at.invariant c.loop-at-test.false

pub returns-clause-behind : goal.returns-clause-behind
returns-clause-behind c = nothing_behind c.args.octet c.args.text.now c.loop-at.at c.loop-at.invariant c.loop-at-test.false
