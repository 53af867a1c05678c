use Rattle.hc_transcript.proofs.NumeralLemmas.{none_before_space}
use Rattle.hc_transcript.proofs.numerals.numeral_before_space.Goals as goal

pub returns-in_err-number-clause-none : goal.returns-in_err-number-clause-none
returns-in_err-number-clause-none c =
    rw c.from_residual.ensures (none_before_space c.args.text.now c.loop-at.at c.loop-at-test.true c.if-octet-eq32.true c.loop-at.invariant
    (λ n. rw (← c.split_at.ensures.front) (c.in_err-number.ensures.none n)))
