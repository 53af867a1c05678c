use Rattle.hc_crowd.proofs.crowd.CrowdLinks.close.Goals as goal

pub returns-clause-closed : goal.returns-clause-closed
returns-clause-closed g c = λ log t. (c.close.ensures.tells _ log t.0, t.1)
