use Rattle.std.proofs.Common.{sym, ◌∙◌}
use Rattle.hc_scripts.proofs.ScriptLineLemmas.{no_size_no_tail}
use Rattle.hc_scripts.proofs.event_line.moment_and_size.Goals as goal

pub returns-in_err-size-clause-none : goal.returns-in_err-size-clause-none
returns-in_err-size-clause-none c =
    rw c.from_residual-in_err-size.ensures
    (no_size_no_tail c.args.kind c.args.text.now c.in_ok-moment.moment c.in_ok-moment.rest.now (sym c.has_octets.ensures ∙ c.if-has_octets.true) c.in_ok-moment.ensures.found c.in_err-size.ensures.none)
