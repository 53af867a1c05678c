use Rattle.hc_core.proofs.machine.Core.step.Goals as goal

pub returns-clause-agrees : goal.returns-clause-agrees
returns-clause-agrees g c = λ settings s h good stands agrees.
    c.steps_keep_agreement.ensures settings c.args.event s h c.serve.result c.serve.new.self good agrees (c.serve.ensures.gives settings s stands)
