use Rattle.std.proofs.Common.{codes, map}
use Rattle.clap.specs.Words.{new_app}
use Rattle.hc_options.specs.Commands.{with_rules}
use Rattle.hc_options.specs.Rows.{rule_by}
use Rattle.hc_arguments.specs.Tables.{serving}
use Rattle.hc_arguments.proofs.command.serve_command.Goals as goal

pub returns : goal.returns
returns c =
    let bare = new_app (codes "serve") in
    let after_serving = with_rules bare (map rule_by serving) in
    c.with_rows.ensures after_serving (c.with_rows-serving.ensures bare c.begun-bare.ensures)
