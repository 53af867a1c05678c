use Rattle.std.specs.Prelude.{false}
use Rattle.hc_peers.specs.Forwards.{turned as forward_turned}
use Rattle.hc_peers.specs.Known.{turned}
use Rattle.hc_peers.proofs.LentLemmas.{client_kept, forward_kept}
use Rattle.hc_peers.proofs.peers.Peers.unqueue.Goals as goal

pub returns-in-Some-clause-kept : goal.returns-in-Some-clause-kept
returns-in-Some-clause-kept g c =
    client_kept g.S.Stream.has_given g.S.Stream.has_got c.args.self.now (c.get_mut.follows.lender (turned false c.in-Some.client.now)) c.in-Client.number c.in-Some.client.now (turned false c.in-Some.client.now) c.in-Some.ensures.value (c.get_mut.follows.holds (turned false c.in-Some.client.now))
    (λ passage is. record { opened = is.opened; ended = is.ended; gave = is.gave; owes = is.owes }) (λ octets has. has)

pub returns-in-Some-get_mut-clause-kept : goal.returns-in-Some-get_mut-clause-kept
returns-in-Some-get_mut-clause-kept g c =
    forward_kept g.S.Stream.has_given g.S.Stream.has_got c.args.self.now (c.get_mut-in-Origin.follows.lender (forward_turned false c.in-Some-get_mut.forward.now)) c.in-Origin.number c.in-Some-get_mut.forward.now (forward_turned false c.in-Some-get_mut.forward.now) c.in-Some-get_mut.ensures.value
    (c.get_mut-in-Origin.follows.holds (forward_turned false c.in-Some-get_mut.forward.now))
    (λ linked. linked) (λ passage is. record { opened = is.opened; ended = is.ended; reached = is.reached; timed = is.timed })
