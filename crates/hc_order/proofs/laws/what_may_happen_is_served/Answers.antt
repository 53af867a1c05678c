use Rattle.hc_order.proofs.MirrorLemmas.{may_happen_served}
use Rattle.hc_order.proofs.laws.what_may_happen_is_served.Goals as goal

pub returns : goal.returns
returns c = may_happen_served
