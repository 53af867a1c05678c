use Rattle.hc_store.proofs.CookieLemmas.{chosen_sets_none, validated_sets_none}
use Rattle.hc_store.proofs.laws.no_cookie_is_chosen.Goals as goal

pub returns-clause-chosen : goal.returns-clause-chosen
returns-clause-chosen c = chosen_sets_none

pub returns-clause-validated : goal.returns-clause-validated
returns-clause-validated c = validated_sets_none
