use Rattle.hc_scripts.proofs.ScriptOnceLemmas.{one_fault}
use Rattle.hc_scripts.proofs.laws.breaks_once.Goals as goal

pub returns : goal.returns
returns c = one_fault
