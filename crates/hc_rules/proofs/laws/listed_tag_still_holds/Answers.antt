use Rattle.hc_rules.proofs.ConditionLemmas.{listed_holds}
use Rattle.hc_rules.proofs.laws.listed_tag_still_holds.Goals as goal

pub returns : goal.returns
returns c = listed_holds
