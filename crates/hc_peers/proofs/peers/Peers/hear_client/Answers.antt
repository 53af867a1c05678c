use Rattle.hc_peers.proofs.LentLemmas.{client_hears}
use Rattle.hc_peers.proofs.ReachLemmas.{client_fails}
use Rattle.hc_peers.proofs.peers.Peers.hear_client.Goals as goal

pub returns-in-Some-clause-heard : goal.returns-in-Some-clause-heard
returns-in-Some-clause-heard g c =
    client_hears g.S.Stream.has_given g.S.Stream.has_got c.args.self.now (c.get_mut.follows.lender c.hear.new.self) c.args.number c.in-Some.client.now c.hear.new.self c.in-Some.ensures.value (c.get_mut.follows.holds c.hear.new.self)
    c.hear.result c.args.hearing.awaited c.hear.ensures.in_turn c.hear.ensures.kept c.hear.ensures.told c.hear.ensures.got

pub returns-in-Some-clause-fails : goal.returns-in-Some-clause-fails
returns-in-Some-clause-fails g c =
    client_fails g.S.Stream.has_failed c.args.self.now.clients.links (c.get_mut.follows.lender c.hear.new.self) c.args.number c.in-Some.client.now c.hear.new.self c.in-Some.ensures.value (c.get_mut.follows.holds c.hear.new.self) _
    c.hear.ensures.fails
