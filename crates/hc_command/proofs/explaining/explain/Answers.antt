use Rattle.hc_command.proofs.ReportLemmas.{explains_nothing, explains_so}
use Rattle.hc_command.proofs.explaining.explain.Goals as goal

pub returns-in-Ok-Some-clause-at : goal.returns-in-Ok-Some-clause-at
returns-in-Ok-Some-clause-at g c = λ place same.
    explains_so _ _ _ _ place c.in-Ok-Some.status _ _ _ (rw c.in-Ok-Some.field-0-is at (c.in-Ok-Some.ensures.at place same))

pub returns-in-Ok-None-clause-at : goal.returns-in-Ok-None-clause-at
returns-in-Ok-None-clause-at g c = λ place same.
    explains_nothing _ _ _ _ place c.no_reply.result _ _ _ _ c.no_reply.ensures (rw c.in-Ok-None.field-0-is at (c.in-Ok-None.ensures.at place same))
