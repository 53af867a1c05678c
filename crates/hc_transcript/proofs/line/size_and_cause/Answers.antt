use Rattle.hc_transcript.proofs.LineLemmas.{no_size_no_end, no_cause_no_end}
use Rattle.hc_transcript.proofs.line.size_and_cause.Goals as goal

pub returns-in_err-size-2-clause-none : goal.returns-in_err-size-2-clause-none
returns-in_err-size-2-clause-none c =
    rw (c.from_residual-in_err-size-2.ensures, c.if-not-with_cause.false) (no_size_no_end c.args.text.now c.in_err-size-2.ensures.none)

pub returns-in_err-cause-clause-none : goal.returns-in_err-cause-clause-none
returns-in_err-cause-clause-none c =
    rw (c.from_residual-in_err-cause.ensures, c.if-not-with_cause.false) (no_cause_no_end c.args.text.now c.in_ok-size-2.size _ c.in_ok-size-2.ensures.found c.in_err-cause.ensures.none)
