use Rattle.std.proofs.Common.{arith}
use Rattle.hc_shown.proofs.ShownLemmas.{on_ok, value_is_shown}
use Rattle.hc_shown.proofs.values.push_value.Goals as goal

pub returns-then-is_credential-clause-shown : goal.returns-then-is_credential-clause-shown
returns-then-is_credential-clause-shown c = on_ok c.push_length.result (value_is_shown c.args.name.now c.args.value.now (omega arith))

pub returns-clause-shown : goal.returns-clause-shown
returns-clause-shown c = on_ok c.push-2.result (value_is_shown c.args.name.now c.args.value.now (omega arith))
