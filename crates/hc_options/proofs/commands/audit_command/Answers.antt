use Rattle.std.proofs.Common.{[], ◌∷◌, codes, map}
use Rattle.clap.specs.Words.{new_app}
use Rattle.hc_options.specs.Commands.{with_rules}
use Rattle.hc_options.specs.Rows.{audited, judging, rule_by}
use Rattle.hc_options.proofs.commands.audit_command.Goals as goal

pub returns : goal.returns
returns c =
    let bare = new_app (codes "audit") in
    let filed = with_rules bare (map rule_by (audited ∷ [])) in
    c.with_rows.ensures (with_rules filed (map rule_by judging)) (c.with_rows-judging.ensures filed (c.with_rows-filed.ensures bare c.begun-bare.ensures))
