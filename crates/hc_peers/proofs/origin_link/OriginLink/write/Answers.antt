use Rattle.std.proofs.Common.{sym}
use Rattle.hc_peers.proofs.ForwardLemmas.{linked_on}
use Rattle.hc_peers.proofs.origin_link.OriginLink.write.Goals as goal

pub returns-clause-kept : goal.returns-clause-kept
returns-clause-kept g c = λ sent heard is.
    linked_on g.S.Stream.has_given g.S.Stream.has_got c.args.self.now (record c.args.self.now { flow = c.write-emptying.new.self; progress = c.written-self.result }) (sym c.if-is_opening.ensures)
    c.write-emptying.ensures.owes sent heard heard (c.write-emptying.ensures.gave heard is.gave) is
