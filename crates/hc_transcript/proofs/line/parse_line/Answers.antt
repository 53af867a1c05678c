use Rattle.hc_transcript.proofs.LineLemmas.{no_number_no_line, no_moment_no_line, no_end_no_line}
use Rattle.hc_transcript.proofs.line.parse_line.Goals as goal

pub returns-in_err-number-clause-none : goal.returns-in_err-number-clause-none
returns-in_err-number-clause-none c = rw c.from_residual-in_err-number.ensures (no_number_no_line c.args.format c.args.text.now c.in_err-number.ensures.none)

pub returns-in_err-moment-clause-none : goal.returns-in_err-moment-clause-none
returns-in_err-moment-clause-none c =
    rw c.from_residual-in_err-moment.ensures (no_moment_no_line c.args.format c.args.text.now c.in_ok-number.number _ c.in_ok-number.ensures.found c.in_err-moment.ensures.none)

pub returns-in_err-size-clause-none : goal.returns-in_err-size-clause-none
returns-in_err-size-clause-none c =
    rw c.from_residual-in_err-size.ensures
    (no_end_no_line c.args.format c.args.text.now c.in_ok-kind.kind c.in_ok-number.number _ c.in_ok-moment.moment _ c.in_ok-kind.ensures.found c.in_ok-number.ensures.found c.in_ok-moment.ensures.found
    (rw c.line_has_cause.ensures at c.in_err-size.ensures.none))
