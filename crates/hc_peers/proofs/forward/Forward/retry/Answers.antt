use Rattle.hc_peers.proofs.ForwardLemmas.{waits_again, was_unused}
use Rattle.hc_peers.proofs.forward.Forward.retry.Goals as goal

pub returns-clause-kept : goal.returns-clause-kept
returns-clause-kept g c =
    waits_again g.S.Stream.has_given g.S.Stream.has_got c.args.self.now c.in-Linked.link c.in-Linked.is c.in-Some.request c.in-Some.ensures.back

pub returns-clause-unused : goal.returns-clause-unused
returns-clause-unused g c = λ waits.
    was_unused g.S.Stream.has_given g.S.Stream.has_got c.args.self.now c.in-Linked.link c.in-Linked.is c.in-Some.request c.in-Some.ensures.back
