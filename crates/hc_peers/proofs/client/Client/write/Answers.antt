use Rattle.std.proofs.Common.{refl}
use Rattle.hc_peers.proofs.ClientLemmas.{goes_on}
use Rattle.hc_peers.proofs.client.Client.write.Goals as goal

pub returns-clause-kept : goal.returns-clause-kept
returns-clause-kept g c =
    goes_on g.S.Stream.has_given g.S.Stream.has_got c.args.self.now (record c.args.self.now { flow = c.write-emptying.new.self; pace = c.written-self.result }) refl refl c.write-emptying.ensures.gave
    c.write-emptying.ensures.owes
