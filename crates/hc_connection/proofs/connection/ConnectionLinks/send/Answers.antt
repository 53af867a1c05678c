use Rattle.hc_connection.specs.Forwards.{AreKept}
use Rattle.hc_connection.specs.Sides.{Tells}
use Rattle.hc_connection.proofs.ConnectionLemmas.{all_sent}
use Rattle.hc_connection.proofs.connection.ConnectionLinks.send.Goals as goal

pub returns-clause-sent : goal.returns-clause-sent
returns-clause-sent g c = λ log t.
    all_sent (Tells g.C.Link.has_given g.C.Link.has_got g.C.Link.was_read g.C.Link.count c.send.new.self.client)
    (AreKept g.O.Link.Link.has_given g.O.Link.Link.has_got c.send.new.self.forwards.links)
    (g.K.Clock.may_tell c.args.self.now.clock.now) c.args.self.now.opened _ _ c.send.result c.args.to c.args.octets.now log c.send.ensures.number t.1 t.2 t.4
    (c.send.ensures.tells log t.0) (c.send.ensures.kept log t.3)
