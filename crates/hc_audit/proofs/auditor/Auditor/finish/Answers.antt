use Rattle.hc_audit.proofs.AuditorLemmas.{settled_is}
use Rattle.hc_audit.proofs.auditor.Auditor.finish.Goals as goal

pub returns-in-Settled-clause-verdict : goal.returns-in-Settled-clause-verdict
returns-in-Settled-clause-verdict g c = λ settings octets agrees.
    settled_is g.I.Index.seen c.args.self.stage settings octets c.in-Settled.verdict c.in-Settled.is agrees
