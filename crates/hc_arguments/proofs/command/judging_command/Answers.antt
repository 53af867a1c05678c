use Rattle.clap.specs.Words.{with_subcommand}
use Rattle.hc_options.specs.Commands.{audit, program}
use Rattle.hc_arguments.specs.Commands.{explain, report}
use Rattle.hc_arguments.proofs.command.judging_command.Goals as goal

pub returns : goal.returns
returns c =
    let with_audit = with_subcommand program audit.top in
    let auditing = c.with_subcommand-auditing.ensures program audit c.program.ensures c.audit_command.ensures in
    let reporting = c.with_subcommand-reporting.ensures with_audit report auditing c.report_command.ensures in
    c.with_subcommand.ensures (with_subcommand with_audit report.top) explain reporting c.explain_command.ensures
