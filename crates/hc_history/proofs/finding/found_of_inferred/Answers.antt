use Rattle.std.proofs.Common.{refl, inl, inr}
use Rattle.hc_history.proofs.StoredLemmas.{carries_inferred, carries_neither}
use Rattle.hc_history.proofs.finding.found_of_inferred.Goals as goal

pub returns-then-passed-ge-FILTER_COUNT : goal.returns-then-passed-ge-FILTER_COUNT
returns-then-passed-ge-FILTER_COUNT c = λ claim h inferred none is recent.
    carries_inferred claim h inferred c.args.passed c.args.recent is recent (inl c.if-passed-ge-FILTER_COUNT.true)

pub returns-then-recent-ge-FORWARDED_COUNT : goal.returns-then-recent-ge-FORWARDED_COUNT
returns-then-recent-ge-FORWARDED_COUNT c = λ claim h inferred none is recent.
    carries_inferred claim h inferred c.args.passed c.args.recent is recent (inr c.if-recent-ge-FORWARDED_COUNT.true)

pub returns-else-recent-ge-FORWARDED_COUNT : goal.returns-else-recent-ge-FORWARDED_COUNT
returns-else-recent-ge-FORWARDED_COUNT c = λ claim h inferred none is recent. (
  refl,
  (none, carries_neither claim h inferred c.args.passed c.args.recent is recent c.if-passed-ge-FILTER_COUNT.false c.if-recent-ge-FORWARDED_COUNT.false),
)
