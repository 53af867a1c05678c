use Rattle.std.proofs.Common.{◌||◌, refl}
use Rattle.hc_peers.proofs.ClientLemmas.{goes_on}
use Rattle.hc_peers.proofs.client.Client.learn.Goals as goal

pub returns-clause-kept : goal.returns-clause-kept
returns-clause-kept g c =
    goes_on g.S.Stream.has_given g.S.Stream.has_got c.args.self.now (record c.args.self.now { flow = c.learn.new.self; queued = c.wants_turn-wanted.result || c.args.self.now.queued; left = c.left_behind-self.result })
    refl refl c.learn.ensures.gave c.learn.ensures.owes
