use Rattle.hc_audit.proofs.judge.Judge.judge_whole.Goals as goal

pub returns-in-Waiting-clause-gives : goal.returns-in-Waiting-clause-gives
returns-in-Waiting-clause-gives g c = λ settings octets j.
    rw c.in-Waiting.is at (c.in_ok-step.ensures.gives settings octets (c.records.invariant settings octets j))

pub returns-in-Settled-clause-gives : goal.returns-in-Settled-clause-gives
returns-in-Settled-clause-gives g c = λ settings octets j.
    rw c.in-Settled.is at (c.in_ok-step.ensures.gives settings octets (c.records.invariant settings octets j))
