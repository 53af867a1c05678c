use Rattle.hc_peers.proofs.LentLemmas.{client_kept, forward_kept}
use Rattle.hc_peers.proofs.peers.Peers.learn.Goals as goal

pub returns-in-Some-clause-kept : goal.returns-in-Some-clause-kept
returns-in-Some-clause-kept g c =
    client_kept g.S.Stream.has_given g.S.Stream.has_got c.args.self.now (c.get_mut.follows.lender c.learn.new.self) c.in-Client.number c.in-Some.client.now c.learn.new.self c.in-Some.ensures.value (c.get_mut.follows.holds c.learn.new.self)
    c.learn.ensures.kept c.learn.ensures.got

pub returns-in-Some-get_mut-clause-kept : goal.returns-in-Some-get_mut-clause-kept
returns-in-Some-get_mut-clause-kept g c =
    forward_kept g.S.Stream.has_given g.S.Stream.has_got c.args.self.now (c.get_mut-in-Origin.follows.lender c.learn-in-Some-get_mut.new.self) c.in-Origin.number c.in-Some-get_mut.forward.now c.learn-in-Some-get_mut.new.self c.in-Some-get_mut.ensures.value (c.get_mut-in-Origin.follows.holds c.learn-in-Some-get_mut.new.self)
    c.learn-in-Some-get_mut.ensures.linked c.learn-in-Some-get_mut.ensures.kept
