use Rattle.std.proofs.Common.{arith}
use Rattle.hc_peers.proofs.LentLemmas.{client_closes}
use Rattle.hc_peers.proofs.peers.Peers.close_client.Goals as goal

pub returns-then-close-clause-tells : goal.returns-then-close-clause-tells
returns-then-close-clause-tells g c =
    client_closes g.S.Stream.has_given g.S.Stream.has_got c.args.self.now (c.get_mut.follows.lender c.close.new.self) c.args.number c.in-Some.client.now c.close.new.self c.in-Some.ensures.value (c.get_mut.follows.holds c.close.new.self)
    _ (λ opened closed count. omega (arith, count, c.saturating_sub-self.ensures)) c.close.ensures.kept

pub returns-else-close-clause-tells : goal.returns-else-close-clause-tells
returns-else-close-clause-tells g c =
    client_closes g.S.Stream.has_given g.S.Stream.has_got c.args.self.now (c.get_mut.follows.lender c.close.new.self) c.args.number c.in-Some.client.now c.close.new.self c.in-Some.ensures.value (c.get_mut.follows.holds c.close.new.self)
    c.args.self.now.connected (λ opened closed count. omega (arith, count)) c.close.ensures.kept
