use Rattle.hc_scripts.proofs.ScriptNumeralLemmas.{unwritten, too_great}
use Rattle.hc_scripts.proofs.numeral.numeral.Goals as goal

pub returns-in_err-number-clause-none : goal.returns-in_err-number-clause-none
returns-in_err-number-clause-none c = rw c.from_residual.ensures (unwritten c.args.text.now c.args.greatest c.requires c.in_err-number.ensures.none)

pub returns-then-number-greatest-clause-none : goal.returns-then-number-greatest-clause-none
returns-then-number-greatest-clause-none c =
    too_great c.args.text.now c.args.greatest c.in_ok-number.number c.requires c.in_ok-number.ensures.found c.if-number-greatest.true
