use Rattle.hc_attended.proofs.GuestLemmas.{turned_away_gone}
use Rattle.hc_attended.proofs.attended.Attended.drop_turned_away.Goals as goal

pub invariant_of-self : goal.invariant_of-self
invariant_of-self g c =
    let s = c.args.self.now in record {
      noted = turned_away_gone s.times s.time.tick s.peers c.drop_turned_away.new.self s.agenda c.forget.new.self c.args.guest (c.drop_turned_away.ensures.rest, c.drop_turned_away.ensures.others) c.drop_turned_away.ensures.gone c.forget.ensures s.noted;
    }
