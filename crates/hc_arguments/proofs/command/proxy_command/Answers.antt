use Rattle.std.proofs.Common.{codes, map}
use Rattle.clap.specs.Words.{new_app}
use Rattle.hc_options.specs.Commands.{with_rules}
use Rattle.hc_options.specs.Rows.{rule_by}
use Rattle.hc_arguments.specs.Tables.{proxying}
use Rattle.hc_arguments.proofs.command.proxy_command.Goals as goal

pub returns : goal.returns
returns c =
    let bare = new_app (codes "proxy") in
    let after_proxying = with_rules bare (map rule_by proxying) in
    c.with_rows.ensures after_proxying (c.with_rows-proxying.ensures bare c.begun-bare.ensures)
