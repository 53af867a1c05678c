use Rattle.hc_scripts.proofs.ScriptFrontLemmas.{fronts}
use Rattle.hc_scripts.proofs.laws.fronts_are_torn.Goals as goal

pub returns : goal.returns
returns c = fronts
