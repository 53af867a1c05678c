use Rattle.hc_rules.proofs.SelectLemmas.{same_lines_select}
use Rattle.hc_rules.proofs.laws.same_lines_are_selected.Goals as goal

pub returns : goal.returns
returns c = same_lines_select
