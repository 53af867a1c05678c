use Rattle.std.proofs.Common.{[], subst}
use Rattle.hc_command.specs.declared.surveying.Outcome.{Outcome}
use Rattle.hc_command.specs.Report.{IsSurveyed}
use Rattle.hc_command.proofs.ReportLemmas.{malformed_of, yes_of}
use Rattle.hc_command.proofs.surveying.Outcome.verdict_without.Goals as goal

pub returns-in-Whole-clause-verdict : goal.returns-in-Whole-clause-verdict
returns-in-Whole-clause-verdict c = λ octets settings h is.
    yes_of octets settings h c.in-Whole.counts (subst (λ (o : Outcome). IsSurveyed octets settings h [] o) c.in-Whole.is is)

pub returns-in-Broken-clause-verdict : goal.returns-in-Broken-clause-verdict
returns-in-Broken-clause-verdict c = λ octets settings h is.
    malformed_of octets settings h c.in-Broken.position c.in-Broken.fault (subst (λ (o : Outcome). IsSurveyed octets settings h [] o) c.in-Broken.is is)
