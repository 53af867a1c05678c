use Rattle.std.proofs.Common.{ap}
use Rattle.hc_peers.proofs.LentLemmas.{forward_kept}
use Rattle.hc_peers.proofs.LinkLemmas.{lost_unlinked}
use Rattle.hc_peers.specs.Forwards.{has_link}
use Rattle.hc_peers.proofs.peers.Peers.lose_origin.Goals as goal

pub returns-in-Some-clause-kept : goal.returns-in-Some-clause-kept
returns-in-Some-clause-kept g c =
    forward_kept g.S.Stream.has_given g.S.Stream.has_got c.args.self.now (c.get_mut.follows.lender c.lose.new.self) c.args.forward c.in-Some.lost.now c.lose.new.self c.in-Some.ensures.value (c.get_mut.follows.holds c.lose.new.self)
    (lost_unlinked c.lose.new.self.reaching c.args.reason (ap (λ forward. forward.reaching) c.lose.ensures.rest) (has_link c.in-Some.lost.now.reaching)) c.lose.ensures.kept
