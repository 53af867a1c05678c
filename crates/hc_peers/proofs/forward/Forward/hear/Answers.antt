use Rattle.hc_peers.proofs.ForwardLemmas.{hears_on}
use Rattle.hc_peers.proofs.forward.Forward.hear.Goals as goal

pub returns-in_ok-heard-in-Linked-clause-kept : goal.returns-in_ok-heard-in-Linked-clause-kept
returns-in_ok-heard-in-Linked-clause-kept g c =
    hears_on g.S.Stream.has_given g.S.Stream.has_got c.args.self.now c.in-Linked.link c.in-Linked.is c.hear.new.self c.hear.ensures.begun c.if-self.false c.is_end-self.result
    c.in_ok-heard-in-Linked.heard c.is_end-self.ensures c.in_ok-heard-in-Linked.ensures.heard
