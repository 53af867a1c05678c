use Rattle.hc_scripts.proofs.ScriptOnceLemmas.{one}
use Rattle.hc_scripts.proofs.laws.one_script.Goals as goal

pub returns : goal.returns
returns c = one
