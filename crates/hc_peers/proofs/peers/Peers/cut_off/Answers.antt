use Rattle.hc_peers.proofs.LentLemmas.{client_kept}
use Rattle.hc_peers.proofs.peers.Peers.cut_off.Goals as goal

pub returns-in-Some-clause-kept : goal.returns-in-Some-clause-kept
returns-in-Some-clause-kept g c =
    client_kept g.S.Stream.has_given g.S.Stream.has_got c.args.self.now (c.get_mut.follows.lender c.cut_off.new.self) c.args.number c.in-Some.client.now c.cut_off.new.self c.in-Some.ensures.value (c.get_mut.follows.holds c.cut_off.new.self)
    c.cut_off.ensures.kept c.cut_off.ensures.got
