use Rattle.hc_scripts.proofs.ScriptOnceLemmas.{broken}
use Rattle.hc_scripts.proofs.laws.broken_is_no_script.Goals as goal

pub returns : goal.returns
returns c = broken
