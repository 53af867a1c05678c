use Rattle.std.proofs.Common.{rules, subst}
use Rattle.std.specs.List.Sorted.{IsNonDecreasingBy}
use Rattle.hc_agenda.specs.Loads.{weight}
use Rattle.hc_agenda.proofs.LoadLemmas.{heaviest_last}
use Rattle.hc_agenda.proofs.reckoning.Ranking.take_heaviest.Goals as goal

pub returns-clause-takes : goal.returns-clause-takes
returns-clause-takes c = (
  search rules,
  c.in_ok-load.ensures.items,
  heaviest_last c.pop.new.self.items c.in_ok-load.load (subst (IsNonDecreasingBy weight) c.in_ok-load.ensures.items c.args.self.now.ordered),
)
