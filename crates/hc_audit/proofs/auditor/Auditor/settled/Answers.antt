use Rattle.std.proofs.Common.{ap}
use Rattle.hc_audit.specs.Agreement.{settled_by}
use Rattle.hc_audit.proofs.AuditorLemmas.{unsettled_may_change}
use Rattle.hc_audit.proofs.auditor.Auditor.settled.Goals as goal

pub returns-in-Open-clause-open : goal.returns-in-Open-clause-open
returns-in-Open-clause-open g c = λ settings octets verdict agrees none is.
    unsettled_may_change g.I.Index.seen c.args.self.now.stage settings octets verdict (ap settled_by c.in-Open.is) agrees is
