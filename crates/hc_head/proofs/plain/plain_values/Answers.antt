use Rattle.hc_head.proofs.PlainLemmas.{visible_plain, joined_plain, apart_plain, spaced_plain, number_plain}
use Rattle.hc_head.proofs.plain.plain_values.Goals as goal

pub returns-clause-visible : goal.returns-clause-visible
returns-clause-visible c = visible_plain

pub returns-clause-joined : goal.returns-clause-joined
returns-clause-joined c = joined_plain

pub returns-clause-apart : goal.returns-clause-apart
returns-clause-apart c = apart_plain

pub returns-clause-spaced : goal.returns-clause-spaced
returns-clause-spaced c = spaced_plain

pub returns-clause-number : goal.returns-clause-number
returns-clause-number c = number_plain
