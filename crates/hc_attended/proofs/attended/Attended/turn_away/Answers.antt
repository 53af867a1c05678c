use Rattle.hc_attended.proofs.GuestLemmas.{turned_away_due}
use Rattle.hc_attended.proofs.attended.Attended.turn_away.Goals as goal

pub invariant_of-self : goal.invariant_of-self
invariant_of-self g c =
    let s = c.args.self.now in record {
      noted = turned_away_due s.times s.time.tick s.peers c.turn_away.new.self s.agenda c.note.new.self c.args.guest c.due_behind-due.result (c.turn_away.ensures.rest, c.turn_away.ensures.others) c.note.ensures c.due_behind-due.ensures s.noted;
    }
