use Rattle.hc_history.proofs.CandidateLemmas.{first_is_furthest, none_is_furthest}
use Rattle.hc_history.proofs.laws.first_candidate_is_the_furthest.Goals as goal

pub returns-clause-first : goal.returns-clause-first
returns-clause-first c = first_is_furthest

pub returns-clause-none : goal.returns-clause-none
returns-clause-none c = none_is_furthest
