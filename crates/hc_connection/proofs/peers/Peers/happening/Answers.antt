use Rattle.std.proofs.Common.{Ok, ap}
use Rattle.std.proofs.lemmas.Result.{err_from_is_err_and}
use Rattle.hc_connection.proofs.ForwardLemmas.{client_heard}
use Rattle.hc_connection.proofs.peers.Peers.happening.Goals as goal

pub returns-in_err-happened-clause-kept : goal.returns-in_err-happened-clause-kept
returns-in_err-happened-clause-kept g c =
    let p = err_from_is_err_and c.from_residual.result c.from_residual.ensures.1 in
    rw p.1 (λ log kept. c.in_err-happened.ensures.kept log (c.in_default-waited_in_time.ensures.kept log kept))

pub returns-in-Some-2-clause-kept : goal.returns-in-Some-2-clause-kept
returns-in-Some-2-clause-kept g c = λ log kept.
    (rw c.in-Some-2.is at c.in_ok-happened.ensures.kept) log (c.in_default-waited_in_time.ensures.kept log kept)

pub returns-clause-kept : goal.returns-clause-kept
returns-clause-kept g c = λ log kept.
    let waited = c.in_default-waited_in_time.ensures.kept log kept in
    client_heard g.O.Link.Link.has_given g.O.Link.Link.has_got c.hear_origin.new.self.forwards.links c.hear.result c.hear.ensures.its log
    (c.in_ok-happened.ensures.none_open (ap Ok c.in_default-2.is) log waited) ((rw c.in_default-2.is at c.in_ok-happened.ensures.kept) log waited)
