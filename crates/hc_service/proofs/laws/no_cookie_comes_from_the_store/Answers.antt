use Rattle.hc_service.proofs.CookieLemmas.{entry_sets_none, event_none, steps_none}
use Rattle.hc_service.proofs.laws.no_cookie_comes_from_the_store.Goals as goal

pub returns-clause-event : goal.returns-clause-event
returns-clause-event c = event_none

pub returns-clause-run : goal.returns-clause-run
returns-clause-run c = steps_none

pub returns-clause-replies : goal.returns-clause-replies
returns-clause-replies c = entry_sets_none
