use Rattle.std.proofs.Common.{Ok, sym}
use Rattle.hc_peers.proofs.ForwardLemmas.{linked_heard}
use Rattle.hc_peers.proofs.origin_link.OriginLink.hear.Goals as goal

pub returns-clause-heard : goal.returns-clause-heard
returns-clause-heard g c = λ sent heard is.
    linked_heard g.S.Stream.has_given g.S.Stream.has_got c.args.self.now (record c.args.self.now { flow = c.hear_flow.new.flow; progress = c.moved-self.result }) (sym c.if-is_opening.ensures)
    c.hear_flow.ensures.owes sent (Ok c.in_ok-heard.heard) heard (c.in_ok-heard.ensures.gave heard is.gave) is
