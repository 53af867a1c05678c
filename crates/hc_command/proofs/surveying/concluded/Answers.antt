use Rattle.hc_command.proofs.surveying.concluded.Goals as goal

pub returns-in-Broken-clause-outcome : goal.returns-in-Broken-clause-outcome
returns-in-Broken-clause-outcome g c = λ settings octets h wrongs surveys.
    record { is = rw c.in-Broken.is at (c.in_ok-finish.ensures.ending settings octets h wrongs surveys); counted = tt }
