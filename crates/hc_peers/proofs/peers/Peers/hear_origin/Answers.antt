use Rattle.std.proofs.lemmas.Result.{err_from_is_err_and}
use Rattle.std.proofs.Common.{Ok, Err}
use Rattle.hc_peers.proofs.LentLemmas.{forward_gone, forward_hears, forward_opens, forward_tells, forward_told}
use Rattle.hc_peers.proofs.ReachLemmas.{hears_loss, hears_on}
use Rattle.hc_peers.proofs.TableLemmas.{taken_at}
use Rattle.hc_peers.proofs.peers.Peers.hear_origin.Goals as goal

pub returns-in_err-heard-clause-heard : goal.returns-in_err-heard-clause-heard
returns-in_err-heard-clause-heard g c =
    let p = err_from_is_err_and c.from_residual.result c.from_residual.ensures.1 in
    rw p.1
    (forward_hears g.S.Stream.has_given g.S.Stream.has_got c.args.self.now _ c.args.forward (Err p.0)
    (forward_opens g.S.Stream.has_given g.S.Stream.has_got c.args.self.now (c.get_mut.follows.lender c.hear.new.self) c.args.forward c.in-Some.found.now c.hear.new.self c.in-Some.ensures.value (c.get_mut.follows.holds c.hear.new.self) (Err p.0) c.in_err-heard.ensures.told)
    (forward_told g.S.Stream.has_given g.S.Stream.has_got c.args.self.now (c.get_mut.follows.lender c.hear.new.self) c.args.forward c.in-Some.found.now c.hear.new.self c.in-Some.ensures.value (c.get_mut.follows.holds c.hear.new.self) c.hear.ensures.linked c.in_err-heard.ensures.kept) (λ log s. s))

pub returns-then-not-is_lost-clause-heard : goal.returns-then-not-is_lost-clause-heard
returns-then-not-is_lost-clause-heard g c =
    forward_hears g.S.Stream.has_given g.S.Stream.has_got c.args.self.now _ c.args.forward (Ok c.in_ok-heard.heard)
    (forward_opens g.S.Stream.has_given g.S.Stream.has_got c.args.self.now (c.get_mut.follows.lender c.hear.new.self) c.args.forward c.in-Some.found.now c.hear.new.self c.in-Some.ensures.value (c.get_mut.follows.holds c.hear.new.self) (Ok c.in_ok-heard.heard) c.in_ok-heard.ensures.told)
    (forward_tells g.S.Stream.has_given g.S.Stream.has_got c.args.self.now (c.get_mut.follows.lender c.hear.new.self) c.args.forward c.in-Some.found.now c.hear.new.self c.in-Some.ensures.value (c.get_mut.follows.holds c.hear.new.self) c.hear.ensures.linked c.in_ok-heard.heard c.if-not-is_lost.ensures c.in_ok-heard.ensures.kept) (λ log s. s)

pub returns-clause-heard : goal.returns-clause-heard
returns-clause-heard g c =
    forward_hears g.S.Stream.has_given g.S.Stream.has_got c.args.self.now _ c.args.forward (Ok c.in_ok-heard.heard)
    (forward_opens g.S.Stream.has_given g.S.Stream.has_got c.args.self.now (c.get_mut.follows.lender c.hear.new.self) c.args.forward c.in-Some.found.now c.hear.new.self c.in-Some.ensures.value (c.get_mut.follows.holds c.hear.new.self) (Ok c.in_ok-heard.heard) c.in_ok-heard.ensures.told)
    (forward_gone g.S.Stream.has_given g.S.Stream.has_got c.args.self.now (c.get_mut.follows.lender c.hear.new.self) c.args.forward c.in-Some.found.now c.hear.new.self c.in-Some.ensures.value (c.get_mut.follows.holds c.hear.new.self) c.hear.ensures.linked c.in_ok-heard.heard c.if-not-is_lost.ensures c.in_ok-heard.ensures.kept c.remove.new.self c.remove.ensures.updates) (λ log s. s)

pub returns-then-not-is_lost-clause-stays : goal.returns-then-not-is_lost-clause-stays
returns-then-not-is_lost-clause-stays g c =
    hears_on g.S.Stream.has_failed c.args.self.now.forwards.links (c.get_mut.follows.lender c.hear.new.self) c.args.forward c.in-Some.found.now c.hear.new.self c.in-Some.ensures.value (c.get_mut.follows.holds c.hear.new.self)
    c.in_ok-heard.heard c.if-not-is_lost.ensures c.in_ok-heard.ensures.stays

pub returns-clause-stays : goal.returns-clause-stays
returns-clause-stays g c =
    hears_loss g.S.Stream.has_failed _ _ c.in_ok-heard.heard c.if-not-is_lost.ensures
    (taken_at (c.get_mut.follows.lender c.hear.new.self) c.remove.new.self c.args.forward c.remove.ensures.updates)
