use Rattle.std.proofs.Common.{◌||◌, ap}
use Rattle.hc_peers.proofs.ForwardLemmas.{goes_on}
use Rattle.hc_peers.proofs.forward.Forward.learn.Goals as goal

pub returns-clause-kept : goal.returns-clause-kept
returns-clause-kept g c =
    goes_on g.S.Stream.has_given g.S.Stream.has_got c.args.self.now c.in-Linked.link c.in-Linked.is c.learn.new.self (ap (λ link. link.progress.begun) c.learn.ensures.behind.rest) c.learn.ensures.kept
    (c.wants_turn-wanted.result || c.args.self.now.queued)
