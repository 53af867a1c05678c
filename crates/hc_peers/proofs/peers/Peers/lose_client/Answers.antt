use Rattle.hc_peers.proofs.LentLemmas.{client_kept}
use Rattle.hc_peers.proofs.peers.Peers.lose_client.Goals as goal

pub returns-in-Some-clause-kept : goal.returns-in-Some-clause-kept
returns-in-Some-clause-kept g c =
    client_kept g.S.Stream.has_given g.S.Stream.has_got c.args.self.now (c.get_mut.follows.lender c.lose.new.self) c.args.number c.in-Some.client.now c.lose.new.self c.in-Some.ensures.value (c.get_mut.follows.holds c.lose.new.self)
    c.lose.ensures.kept c.lose.ensures.got
