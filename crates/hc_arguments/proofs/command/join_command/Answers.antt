use Rattle.std.proofs.Common.{[], ◌∷◌, codes, map}
use Rattle.clap.specs.Words.{new_app}
use Rattle.hc_options.specs.Commands.{with_rules}
use Rattle.hc_options.specs.Rows.{rule_by}
use Rattle.hc_arguments.specs.Tables.{folder}
use Rattle.hc_arguments.proofs.command.join_command.Goals as goal

pub returns : goal.returns
returns c =
    let bare = new_app (codes "join") in
    let after_placed = with_rules bare (map rule_by (folder ∷ [])) in
    c.with_rows.ensures after_placed (c.with_rows-placed.ensures bare c.begun-bare.ensures)
