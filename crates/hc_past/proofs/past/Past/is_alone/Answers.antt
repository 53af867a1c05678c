use Rattle.hc_past.proofs.AskedLemmas.{alone, few_wait}
use Rattle.hc_past.proofs.past.Past.is_alone.Goals as goal

pub returns-then-self-since-clause-alone : goal.returns-then-self-since-clause-alone
returns-then-self-since-clause-alone c = λ h target has few.
    alone c.args.since c.len-waiting.result h target c.args.self.now c.len-waiting.ensures.len c.if-self-since.true has few

pub returns-then-self-since-clause-apart : goal.returns-then-self-since-clause-apart
returns-then-self-since-clause-apart c = λ h target has is.
    few_wait c.args.since c.len-waiting.result h target c.args.self.now c.len-waiting.ensures.len c.len-waiting.ensures.ordered has is
