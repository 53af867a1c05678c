use Rattle.hc_options.specs.Commands.{audit, program}
use Rattle.hc_options.proofs.commands.auditing_command.Goals as goal

pub returns : goal.returns
returns c = c.with_subcommand.ensures program audit c.program.ensures c.audit_command.ensures
