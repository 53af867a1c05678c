use Rattle.std.proofs.Common.{refl}
use Rattle.hc_attended.proofs.GuestLemmas.{guest_due}
use Rattle.hc_attended.proofs.attended.Attended.put_off.Goals as goal

pub invariant_of-self : goal.invariant_of-self
invariant_of-self g c =
    let s = c.args.self.now in record {
      noted = guest_due s.times s.time.tick s.peers s.peers s.agenda c.note.new.self c.args.guest c.due_behind-due.result (refl, λ m differ. refl) c.note.ensures c.due_behind-due.ensures s.noted;
    }
