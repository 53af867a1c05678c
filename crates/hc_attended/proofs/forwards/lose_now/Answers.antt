use Rattle.hc_attended.proofs.GroundLemmas.{forward_lost}
use Rattle.hc_attended.proofs.forwards.lose_now.Goals as goal

pub returns-clause-lost : goal.returns-clause-lost
returns-clause-lost g c = forward_lost c.args.reason c.args.forward c.args.peers.now c.lose_origin.new.self c.queue.new.self c.lose_origin.ensures.behind c.queue.ensures.queued
