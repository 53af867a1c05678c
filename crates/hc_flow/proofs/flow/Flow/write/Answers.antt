use Rattle.hc_flow.proofs.MoveLemmas.{owes_moved}
use Rattle.hc_flow.proofs.flow.Flow.write.Goals as goal

pub returns-in-Emptied-clause-owes : goal.returns-in-Emptied-clause-owes
returns-in-Emptied-clause-owes g c = λ sent owes.
    let flow = c.args.self.now in
    c.end_once-in-Emptied.ensures.owes sent
    (owes_moved g.S.Stream.has_got flow.stream c.write_to.new.stream flow.failed flow.outbox c.write_to.new.self sent c.if-self.false c.in-Emptied.ensures.got owes)

pub returns-in-Later-clause-owes : goal.returns-in-Later-clause-owes
returns-in-Later-clause-owes g c = λ sent owes.
    let flow = c.args.self.now in
    owes_moved g.S.Stream.has_got flow.stream c.write_to.new.stream flow.failed flow.outbox c.write_to.new.self sent c.if-self.false c.in-Later.ensures.got owes

pub returns-in-Failed-clause-owes : goal.returns-in-Failed-clause-owes
returns-in-Failed-clause-owes g c = λ sent owes.
    let flow = c.args.self.now in
    c.lose.ensures.owes sent
    (owes_moved g.S.Stream.has_got flow.stream c.write_to.new.stream flow.failed flow.outbox c.write_to.new.self sent c.if-self.false c.in-Failed.ensures.got owes)
