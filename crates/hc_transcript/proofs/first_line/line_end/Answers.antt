use Rattle.std.proofs.Common.{◌≡◌, arith}
use Rattle.hc_transcript.specs.Limits.{longest_line}
use Rattle.hc_transcript.proofs.FirstLineLemmas.{line_before_feed, no_line_without_feed}
use Rattle.hc_transcript.proofs.first_line.line_end.Goals as goal

pub returns-then-at-eq-LONGEST_LINE-clause-none : goal.returns-then-at-eq-LONGEST_LINE-clause-none
returns-then-at-eq-LONGEST_LINE-clause-none c =
    no_line_without_feed c.args.bytes.now (rw c.if-at-eq-LONGEST_LINE.true at c.loop-at.invariant.no_feed)

pub returns-then-octet-eq10-clause-found : goal.returns-then-octet-eq10-clause-found
returns-then-octet-eq10-clause-found c =
    (c.loop-at-test.true, line_before_feed c.args.bytes.now c.loop-at.at c.loop-at-test.true (omega arith) c.if-octet-eq10.true c.loop-at.invariant.no_feed)

pub returns-clause-long : goal.returns-clause-long
returns-clause-long c = λ long.
    let at : c.loop-at.at ≡ longest_line = omega arith in
    record { long = long; no_feed = rw at at c.loop-at.invariant.no_feed }
