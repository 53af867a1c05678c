use Rattle.hc_scripts.proofs.ScriptLineLemmas.{no_word_no_line, no_tail_no_line}
use Rattle.hc_scripts.proofs.event_line.parse_line.Goals as goal

pub returns-in_err-kind-clause-none : goal.returns-in_err-kind-clause-none
returns-in_err-kind-clause-none c =
    rw c.from_residual-in_err-kind.ensures (no_word_no_line c.args.text.now c.in_ok-word.word.now c.in_ok-word.rest.now c.in_ok-word.ensures.found c.in_err-kind.ensures.none)

pub returns-in_err-moment-clause-none : goal.returns-in_err-moment-clause-none
returns-in_err-moment-clause-none c =
    rw c.from_residual-in_err-moment.ensures
    (no_tail_no_line c.args.text.now c.in_ok-word.word.now c.in_ok-word.rest.now c.in_ok-kind.kind c.in_ok-number.number c.in_ok-number.rest.now
    c.in_ok-word.ensures.found c.in_ok-kind.ensures.found c.in_ok-number.ensures.found c.in_err-moment.ensures.none)
