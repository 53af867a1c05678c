use Rattle.std.proofs.Common.{codes}
use Rattle.clap.specs.Words.{new_app}
use Rattle.hc_arguments.proofs.command.split_command.Goals as goal

pub returns : goal.returns
returns c =
    let bare = new_app (codes "split") in
    c.with_rows.ensures bare c.begun-bare.ensures
