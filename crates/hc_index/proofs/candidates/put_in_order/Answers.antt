use Rattle.std.proofs.Common.{rules}
use Rattle.std.proofs.lemmas.List.Sorted.{answers_always}
use Rattle.hc_history.specs.Candidates.{is_before}
use Rattle.hc_index.proofs.CandidateLemmas.{before_ranks}
use Rattle.hc_index.proofs.candidates.put_in_order.Goals as goal

pub returns-clause-in_order : goal.returns-clause-in_order
returns-clause-in_order c = c.sort_unstable_by.ensures.sorted is_before before_ranks (answers_always _ _ _ (λ f a r g k. search rules))
