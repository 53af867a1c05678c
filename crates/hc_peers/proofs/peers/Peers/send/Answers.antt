use Rattle.hc_peers.proofs.LentLemmas.{client_sent}
use Rattle.hc_peers.proofs.peers.Peers.send.Goals as goal

pub returns-in-Some-clause-sent : goal.returns-in-Some-clause-sent
returns-in-Some-clause-sent g c =
    rw c.in-Client.is
    (client_sent g.S.Stream.has_given g.S.Stream.has_got c.args.self.now (c.get_mut.follows.lender c.send.new.self) c.in-Client.number c.in-Some.client.now c.send.new.self c.in-Some.ensures.value
    (c.get_mut.follows.holds c.send.new.self) c.send.result c.args.octets.now c.send.ensures.kept)
