use Rattle.hc_attended.proofs.GuestLemmas.{guest_gone}
use Rattle.hc_attended.proofs.attended.Attended.take_guest.Goals as goal

pub invariant_of-self : goal.invariant_of-self
invariant_of-self g c =
    let s = c.args.self.now in record {
      noted = guest_gone s.times s.time.tick s.peers c.take_guest.new.self s.agenda c.forget.new.self c.args.guest (c.take_guest.ensures.rest, c.take_guest.ensures.others) c.take_guest.ensures.gone c.forget.ensures s.noted;
    }
