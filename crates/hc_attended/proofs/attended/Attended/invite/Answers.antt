use Rattle.hc_attended.proofs.GuestLemmas.{guest_due, guest_refused}
use Rattle.hc_attended.proofs.attended.Attended.invite.Goals as goal

pub invariant_of-self-2 : goal.invariant_of-self-2
invariant_of-self-2 g c =
    let s = c.args.self.now in record {
      noted = guest_due s.times s.time.tick s.peers c.invite.new.self s.agenda c.note.new.self c.args.guest c.due_behind-due.result (c.invite.ensures.rest, c.invite.ensures.others) c.note.ensures c.due_behind-due.ensures s.noted;
    }

pub invariant_of-self : goal.invariant_of-self
invariant_of-self g c =
    let s = c.args.self.now in record {
      noted = guest_refused s.times s.time.tick s.peers c.invite.new.self s.agenda c.args.guest (c.invite.ensures.rest, c.invite.ensures.others) c.in_err-invite.ensures.err s.noted;
    }
