use Rattle.hc_attended.proofs.GuestLemmas.{guest_gone}
use Rattle.hc_attended.proofs.attended.Attended.let_guest_go.Goals as goal

pub invariant_of-self : goal.invariant_of-self
invariant_of-self g c =
    let s = c.args.self.now in record {
      noted = guest_gone s.times s.time.tick s.peers c.let_guest_go.new.self s.agenda c.forget.new.self c.args.guest (c.let_guest_go.ensures.rest, c.let_guest_go.ensures.others) c.let_guest_go.ensures.gone c.forget.ensures s.noted;
    }
