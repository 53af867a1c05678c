use Rattle.hc_peers.proofs.LentLemmas.{client_told, forward_told}
use Rattle.hc_peers.proofs.peers.Peers.write.Goals as goal

pub returns-in-Some-clause-tells : goal.returns-in-Some-clause-tells
returns-in-Some-clause-tells g c =
    client_told g.S.Stream.has_given g.S.Stream.has_got c.args.self.now (c.get_mut.follows.lender c.write.new.self) c.in-Client.number c.in-Some.client.now c.write.new.self c.in-Some.ensures.value (c.get_mut.follows.holds c.write.new.self)
    c.write.ensures.kept

pub returns-in-Some-get_mut-clause-tells : goal.returns-in-Some-get_mut-clause-tells
returns-in-Some-get_mut-clause-tells g c =
    forward_told g.S.Stream.has_given g.S.Stream.has_got c.args.self.now (c.get_mut-in-Origin.follows.lender c.write-in-Some-get_mut.new.self) c.in-Origin.number c.in-Some-get_mut.forward.now c.write-in-Some-get_mut.new.self c.in-Some-get_mut.ensures.value (c.get_mut-in-Origin.follows.holds c.write-in-Some-get_mut.new.self)
    c.write-in-Some-get_mut.ensures.linked c.write-in-Some-get_mut.ensures.kept
