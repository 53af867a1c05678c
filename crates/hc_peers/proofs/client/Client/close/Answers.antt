use Rattle.std.proofs.Common.{true, refl}
use Rattle.hc_peers.proofs.ClientLemmas.{is_closed}
use Rattle.hc_peers.proofs.client.Client.close.Goals as goal

pub returns-clause-kept : goal.returns-clause-kept
returns-clause-kept g c =
    is_closed g.S.Stream.has_given g.S.Stream.has_got c.args.self.now (record c.args.self.now { flow = c.end_behind.new.self; closed = true }) refl refl
    c.end_behind.ensures.gave c.end_behind.ensures.owes
