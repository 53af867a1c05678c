use Rattle.hc_peers.proofs.PlaceLemmas.{few_given, placed}
use Rattle.hc_peers.proofs.peers.Peers.give_place.Goals as goal

pub returns-clause-kept : goal.returns-clause-kept
returns-clause-kept g c =
    placed g.S.Stream.has_given g.S.Stream.has_got c.args.self.now c.give.new.self c.args.self.now.lingering
    (λ bounds. few_given bounds c.args.self.now c.give.new.self c.give.ensures.all c.give.ensures.one_more c.requires.left c.give.ensures.kept)
