use Rattle.hc_audit.proofs.AuditorLemmas.{settled_goes_on, open_is}
use Rattle.hc_audit.proofs.auditor.Auditor.feed.Goals as goal

pub returns-in-Settled-clause-ok : goal.returns-in-Settled-clause-ok
returns-in-Settled-clause-ok g c = λ settings octets agrees.
    settled_goes_on g.I.Index.seen c.args.self.now.stage settings octets c.args.piece.now c.in-Settled.field-0 c.in-Settled.is agrees

pub returns-in-Ok-None-clause-ok : goal.returns-in-Ok-None-clause-ok
returns-in-Ok-None-clause-ok g c = λ settings octets agrees.
    rw c.in-Ok-None.field-0-is at
    (c.in-Ok-None.ensures.gives settings octets (open_is g.I.Index.seen c.args.self.now.stage settings octets c.in-Open.judge c.in-Open.is agrees))
