use Rattle.hc_transcript.proofs.ItemLemmas.{one_item, no_item}
use Rattle.hc_transcript.proofs.laws.one_item.Goals as goal

pub returns-clause-one : goal.returns-clause-one
returns-clause-one c = one_item

pub returns-clause-none : goal.returns-clause-none
returns-clause-none c = no_item
