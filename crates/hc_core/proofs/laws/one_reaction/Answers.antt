use Rattle.hc_core.proofs.OnceLemmas.{reacts_once}
use Rattle.hc_core.proofs.laws.one_reaction.Goals as goal

pub returns : goal.returns
returns c = reacts_once
