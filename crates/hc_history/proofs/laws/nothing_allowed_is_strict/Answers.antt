use Rattle.hc_history.proofs.AllowedLemmas.{strict_alike}
use Rattle.hc_history.proofs.StrictLemmas.{answered_strictly, counted, rightly, verdict_strictly, wrongly}
use Rattle.hc_history.proofs.laws.nothing_allowed_is_strict.Goals as goal

pub returns-clause-right : goal.returns-clause-right
returns-clause-right c = λ format settings h item none. rightly format settings none h item

pub returns-clause-wrong : goal.returns-clause-wrong
returns-clause-wrong c = λ format settings h item why none. wrongly format settings none h item why

pub returns-clause-counts : goal.returns-clause-counts
returns-clause-counts c = λ format settings h none. counted format settings none h

pub returns-clause-verdict : goal.returns-clause-verdict
returns-clause-verdict c = λ octets settings verdict none. verdict_strictly octets settings none verdict

pub returns-clause-filters : goal.returns-clause-filters
returns-clause-filters c = λ inferred claim kept none. strict_alike claim inferred none kept

pub returns-clause-forwarded : goal.returns-clause-forwarded
returns-clause-forwarded c = λ inferred claim h none. answered_strictly claim inferred none h
