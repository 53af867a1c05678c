use Rattle.hc_peers.proofs.LentLemmas.{forward_linked}
use Rattle.hc_peers.proofs.peers.Peers.link.Goals as goal

pub returns-in-Some-clause-kept : goal.returns-in-Some-clause-kept
returns-in-Some-clause-kept g c = λ given got.
    forward_linked g.S.Stream.has_given g.S.Stream.has_got c.args.self.now (c.get_mut.follows.lender c.link.new.self) c.args.forward c.in-Some.waiting.now c.link.new.self c.in-Some.ensures.value (c.get_mut.follows.holds c.link.new.self)
    c.if-not-may_link.ensures (c.link.ensures.kept given got)
