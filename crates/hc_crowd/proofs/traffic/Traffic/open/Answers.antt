use Rattle.hc_order.specs.declared.occurrence.Reason.TheVariants.{Peer}
use Rattle.hc_crowd.proofs.traffic.Traffic.open.Goals as goal

pub returns-clause-tells : goal.returns-clause-tells
returns-clause-tells g c = λ given got origin log t moment. c.in_ok-open.ensures.tells given got origin log t moment Peer
