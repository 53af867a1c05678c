use Rattle.std.proofs.Common.{[], ◌∷◌, codes, map}
use Rattle.clap.specs.Words.{new_app}
use Rattle.hc_options.specs.Commands.{with_rules}
use Rattle.hc_options.specs.Rows.{audited, counting, judging, rule_by}
use Rattle.hc_arguments.proofs.command.report_command.Goals as goal

pub returns : goal.returns
returns c =
    let bare = new_app (codes "report") in
    let after_filed = with_rules bare (map rule_by (audited ∷ [])) in
    let after_judging = with_rules after_filed (map rule_by judging) in
    let after_counting = with_rules after_judging (map rule_by counting) in
    c.with_rows.ensures after_counting (c.with_rows-counting.ensures after_judging (c.with_rows-judging.ensures after_filed (c.with_rows-filed.ensures bare c.begun-bare.ensures)))
