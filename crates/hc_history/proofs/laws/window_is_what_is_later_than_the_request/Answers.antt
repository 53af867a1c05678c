use Rattle.hc_history.proofs.WindowLemmas.{some_since-latest, carried}
use Rattle.hc_history.proofs.ValidatedLemmas.{validated_between}
use Rattle.hc_history.proofs.laws.window_is_what_is_later_than_the_request.Goals as goal

pub returns-clause-some : goal.returns-clause-some
returns-clause-some c = some_since-latest

pub returns-clause-carried : goal.returns-clause-carried
returns-clause-carried c = carried

pub returns-clause-validated : goal.returns-clause-validated
returns-clause-validated c = validated_between
