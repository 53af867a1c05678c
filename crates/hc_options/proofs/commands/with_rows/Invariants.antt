use Rattle.std.proofs.Common.{map, take}
use Rattle.clap.specs.Words.{App}
use Rattle.hc_options.specs.Commands.{IsMade, with_rules}
use Rattle.hc_options.specs.Rows.{row_rule}
use Rattle.hc_options.proofs.commands.with_rows.Given as goal

-- the command has the rows so far
abbrev pub invariant-loop-row : goal.invariant-loop-row
invariant-loop-row l =
    (app : App) → IsMade app l.fn.command → IsMade (with_rules app (map row_rule (take l.row-index l.rows))) l.command
