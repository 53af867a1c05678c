use Rattle.std.proofs.Common.{rules, sym, ◌∙◌}
use Rattle.std.proofs.lemmas.List.Sorted.{IsNonDecreasingBy-from_sort_by_key, sum_by-IsPermutation}
use Rattle.hc_agenda.specs.Loads.{weight}
use Rattle.hc_agenda.proofs.reckoning.Reckoning.into_ranking.Goals as goal

pub invariant_of-result : goal.invariant_of-result
invariant_of-result c = record {
  sum_is = c.args.self.sum_is ∙ sym (sum_by-IsPermutation weight c.args.self.loads.items c.sort_unstable_by_key.new.self.items c.sort_unstable_by_key.ensures.permutation);
  ordered = IsNonDecreasingBy-from_sort_by_key weight c.sort_unstable_by_key.new.self.items c.sort_unstable_by_key.ensures.sorted (λ a r q called. search rules);
}
