use Rattle.hc_attended.proofs.FirstLemmas.{none_attended}
use Rattle.hc_attended.proofs.attended.Attended.new.Goals as goal

pub invariant_of-result-2 : goal.invariant_of-result-2
invariant_of-result-2 g c = record { noted = λ none. none_attended c.args.times c.tick.result c.new.result c.new-2.result c.new.ensures.none }
