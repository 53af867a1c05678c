use Rattle.hc_peers.proofs.LentLemmas.{client_kept}
use Rattle.hc_peers.proofs.peers.Peers.discard.Goals as goal

pub returns-in-Some-clause-kept : goal.returns-in-Some-clause-kept
returns-in-Some-clause-kept g c =
    client_kept g.S.Stream.has_given g.S.Stream.has_got c.args.self.now (c.get_mut.follows.lender c.discard.new.self) c.args.number c.in-Some.client.now c.discard.new.self c.in-Some.ensures.value (c.get_mut.follows.holds c.discard.new.self)
    c.discard.ensures.kept c.discard.ensures.got
