use Rattle.hc_attended.proofs.LingeringLemmas.{turn_to_linger}
use Rattle.hc_attended.proofs.attended.Attended.give_lingering_turn.Goals as goal

pub invariant_of-self : goal.invariant_of-self
invariant_of-self g c =
    let s = c.args.self.now in
    let given = c.give_lingering_turn in
    record {
      noted = turn_to_linger c.args.forward s.time.tick s.times s.peers given.new.peers s.agenda given.new.agenda given.ensures.only given.ensures.gains given.ensures.notes given.ensures.stands s.noted;
    }
