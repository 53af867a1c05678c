use Rattle.std.proofs.Common.{[], ◌∷◌, codes, map}
use Rattle.clap.specs.Words.{new_app}
use Rattle.hc_options.specs.Commands.{with_rules}
use Rattle.hc_options.specs.Rows.{judging, rule_by}
use Rattle.hc_arguments.specs.Tables.{explained, position}
use Rattle.hc_arguments.proofs.command.explain_command.Goals as goal

pub returns : goal.returns
returns c =
    let bare = new_app (codes "explain") in
    let after_placed = with_rules bare (map rule_by (explained ∷ position ∷ [])) in
    let after_judging = with_rules after_placed (map rule_by judging) in
    c.with_rows.ensures after_judging (c.with_rows-judging.ensures after_placed (c.with_rows-placed.ensures bare c.begun-bare.ensures))
