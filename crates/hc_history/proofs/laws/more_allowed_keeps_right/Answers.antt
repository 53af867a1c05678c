use Rattle.hc_history.proofs.AllowedLemmas.{right_more, yes_more}
use Rattle.hc_history.proofs.laws.more_allowed_keeps_right.Goals as goal

pub returns-clause-right : goal.returns-clause-right
returns-clause-right c = right_more

pub returns-clause-yes : goal.returns-clause-yes
returns-clause-yes c = yes_more
