use Rattle.hc_order.specs.declared.receiver.Receiver.TheVariants.{Origin}
use Rattle.hc_attended.proofs.NoteLemmas.{notes_same, turn_kept}
use Rattle.hc_attended.proofs.TimedLemmas.{timed_learned}
use Rattle.hc_attended.proofs.forwards.learn.Goals as goal

pub returns-then-learn-clause-timed : goal.returns-then-learn-clause-timed
returns-then-learn-clause-timed g c =
    timed_learned c.args.forward c.args.readiness c.args.peers.now c.learn.new.self c.args.agenda.now c.give_turn.new.self c.learn.ensures.only c.learn.ensures.behind
    (turn_kept (Origin c.args.forward) c.args.agenda.now c.give_turn.new.self c.give_turn.ensures)

pub returns-else-learn-clause-timed : goal.returns-else-learn-clause-timed
returns-else-learn-clause-timed g c =
    timed_learned c.args.forward c.args.readiness c.args.peers.now c.learn.new.self c.args.agenda.now c.args.agenda.now c.learn.ensures.only c.learn.ensures.behind (notes_same c.args.agenda.now)
