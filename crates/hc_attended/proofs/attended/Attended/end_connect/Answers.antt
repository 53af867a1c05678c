use Rattle.std.proofs.Common.{sym}
use Rattle.hc_agenda.specs.Due.{same_timeout}
use Rattle.hc_agenda.specs.declared.deadline.Timeout.TheVariants.{Connect}
use Rattle.hc_attended.proofs.ForwardLemmas.{connect_less, notes_due}
use Rattle.hc_attended.proofs.NoteLemmas.{due_forgotten}
use Rattle.hc_attended.proofs.StepLemmas.{call_attended, none_moved, opens_no_more}
use Rattle.hc_attended.proofs.attended.Attended.end_connect.Goals as goal

pub invariant_of-self : goal.invariant_of-self
invariant_of-self g c =
    let s = c.args.self.now in
    let f = c.args.forward in
    record {
      noted = opens_no_more s.times s.time.tick f s.peers s.agenda c.forget.new.self (sym c.if-not-is_opening.ensures) (due_forgotten (same_timeout Connect) f s.agenda c.forget.new.self c.forget.ensures) s.noted;
    }

pub invariant_of-self-2 : goal.invariant_of-self-2
invariant_of-self-2 g c =
    let s = c.args.self.now in
    let f = c.args.forward in
    record {
      noted = call_attended s.times s.time.tick f s.peers c.lose.new.peers s.agenda c.forget.new.self c.lose.new.agenda
          (notes_due (connect_less f) (due_forgotten (same_timeout Connect) f s.agenda c.forget.new.self c.forget.ensures)) c.lose.ensures.only c.lose.ensures.absent (none_moved f c.lose.ensures.notes) c.lose.ensures.seen
          (λ ok. c.lose.ensures.timed s.times s.time.tick) s.noted;
    }
