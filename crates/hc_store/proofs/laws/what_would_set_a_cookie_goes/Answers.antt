use Rattle.hc_store.proofs.CookieLemmas.{cookie_goes, others_stay}
use Rattle.hc_store.proofs.laws.what_would_set_a_cookie_goes.Goals as goal

pub returns-clause-goes : goal.returns-clause-goes
returns-clause-goes c = cookie_goes

pub returns-clause-stays : goal.returns-clause-stays
returns-clause-stays c = others_stay
