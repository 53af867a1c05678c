use Rattle.hc_peers.proofs.LentLemmas.{forward_kept}
use Rattle.hc_peers.proofs.peers.Peers.retry.Goals as goal

pub returns-in-Some-clause-kept : goal.returns-in-Some-clause-kept
returns-in-Some-clause-kept g c =
    forward_kept g.S.Stream.has_given g.S.Stream.has_got c.args.self.now (c.get_mut.follows.lender c.retry.new.self) c.args.forward c.in-Some.failed.now c.retry.new.self c.in-Some.ensures.value (c.get_mut.follows.holds c.retry.new.self)
    c.retry.ensures.linked c.retry.ensures.kept
