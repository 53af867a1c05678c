use Rattle.std.proofs.Common.{inr}
use Rattle.hc_arguments.proofs.arguments.asked_in.Goals as goal

pub returns-in_ok-error-in-Err-clause-err : goal.returns-in_ok-error-in-Err-clause-err
returns-in_ok-error-in-Err-clause-err c =
    inr (record { refusal = c.in-Err.refusal; refuses = c.in-Err.ensures.err; kind_is = c.in_ok-error-in-Err.ensures })
