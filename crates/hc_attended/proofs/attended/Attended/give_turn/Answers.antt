use Rattle.hc_attended.proofs.LaterLemmas.{turn_attended_at}
use Rattle.hc_attended.proofs.attended.Attended.give_turn.Goals as goal

pub invariant_of-self : goal.invariant_of-self
invariant_of-self g c =
    let now = c.args.self.now in
    record { noted = turn_attended_at c.args.link now.times now.time.tick now.peers c.give_turn.new.peers now.agenda c.give_turn.new.agenda c.give_turn.ensures.turns c.give_turn.ensures.notes c.give_turn.ensures.stands now.noted }
