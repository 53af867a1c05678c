use Rattle.std.proofs.Common.{ap, is_some}
use Rattle.hc_peers.proofs.PlaceLemmas.{few_lingering, placed}
use Rattle.hc_peers.proofs.peers.Peers.linger.Goals as goal

pub returns-clause-kept : goal.returns-clause-kept
returns-clause-kept g c =
    placed g.S.Stream.has_given g.S.Stream.has_got c.args.self.now c.args.self.now.places c.put.new.self
    (λ bounds few. few_lingering bounds c.args.self.now few c.args.forward c.put.new.self (λ f differ. ap is_some (c.put.ensures.others f differ)) c.if-not-may_linger.ensures)
