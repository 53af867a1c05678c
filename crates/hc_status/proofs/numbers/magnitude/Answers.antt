use Rattle.std.proofs.Common.{arith}
use Rattle.std.proofs.lemmas.Grind.{common_steps}
use Rattle.hc_status.proofs.NumberLemmas.{digits_value_small}
use Rattle.hc_status.proofs.numbers.magnitude.Goals as goal

pub returns-then-is_digits-clause-value : goal.returns-then-is_digits-clause-value
returns-then-is_digits-clause-value c =
    let small = digits_value_small c.args.digits.now in
    grind (arith, common_steps)

pub returns-then-is_digits-clause-small : goal.returns-then-is_digits-clause-small
returns-then-is_digits-clause-small c =
    let small = digits_value_small c.args.digits.now in
    grind (arith, common_steps)
