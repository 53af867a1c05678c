use Rattle.hc_peers.proofs.ForwardLemmas.{goes_on}
use Rattle.hc_peers.proofs.forward.Forward.write.Goals as goal

pub returns-in-Linked-clause-kept : goal.returns-in-Linked-clause-kept
returns-in-Linked-clause-kept g c =
    goes_on g.S.Stream.has_given g.S.Stream.has_got c.args.self.now c.in-Linked.link c.in-Linked.is c.write.new.self c.write.ensures.begun c.write.ensures.kept c.args.self.now.queued
