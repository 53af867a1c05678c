use Rattle.hc_history.proofs.WrongLemmas.{first_is_no, none_is_yes, none_is_malformed}
use Rattle.hc_history.proofs.laws.wrong_replies_begin_with_the_verdict.Goals as goal

pub returns-clause-first : goal.returns-clause-first
returns-clause-first c = first_is_no

pub returns-clause-whole : goal.returns-clause-whole
returns-clause-whole c = none_is_yes

pub returns-clause-broken : goal.returns-clause-broken
returns-clause-broken c = none_is_malformed
