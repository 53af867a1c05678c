use Rattle.std.proofs.Common.{codes}
use Rattle.clap.specs.Words.{new_app}
use Rattle.hc_arguments.proofs.command.show_command.Goals as goal

pub returns : goal.returns
returns c =
    let bare = new_app (codes "show") in
    c.with_rows.ensures bare c.begun-bare.ensures
