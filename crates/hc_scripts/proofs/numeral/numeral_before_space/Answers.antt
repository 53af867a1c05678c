use Rattle.hc_scripts.proofs.ScriptNumeralLemmas.{no_numeral_before}
use Rattle.hc_scripts.proofs.numeral.numeral_before_space.Goals as goal

pub returns-in_err-number-clause-none : goal.returns-in_err-number-clause-none
returns-in_err-number-clause-none c =
    rw c.from_residual-in_err-number.ensures
    (no_numeral_before c.args.text.now c.args.greatest c.in_ok-front.front.now c.in_ok-front.rest.now c.requires c.in_ok-front.ensures.found c.in_err-number.ensures.none)
