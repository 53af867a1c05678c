use Rattle.hc_peers.proofs.PlaceLemmas.{few_freed, placed}
use Rattle.hc_peers.proofs.peers.Peers.free_place.Goals as goal

pub returns-clause-kept : goal.returns-clause-kept
returns-clause-kept g c =
    placed g.S.Stream.has_given g.S.Stream.has_got c.args.self.now c.free.new.self c.args.self.now.lingering
    (λ bounds few. few_freed bounds c.args.self.now few c.args.forward c.free.new.self c.free.ensures.all c.free.ensures.fewer c.free.ensures.others c.if-needs_place.ensures)
