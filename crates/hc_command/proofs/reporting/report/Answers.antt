use Rattle.std.proofs.Common.{rules}
use Rattle.hc_command.proofs.HeldLemmas.{refused_by, reports_by}
use Rattle.hc_command.proofs.reporting.report.Goals as goal

pub returns-in-Some : goal.returns-in-Some
returns-in-Some g c =
    refused_by c.args.form c.args.terms _ c.in-Some.status _ _ _ c.in-Some.ensures.some

pub returns-in-Ok : goal.returns-in-Ok
returns-in-Ok g c =
    reports_by c.args.form c.args.terms c.in-Ok.end _ c.ended_strictly.result _ _ _ _ _
    (c.other_settings.ensures.none (search rules)) c.in-Ok.ensures (c.other_settings.ensures.quiet (search rules)) c.ended_strictly.ensures
