use Rattle.hc_agenda.specs.Due.{same_timeout}
use Rattle.hc_agenda.specs.declared.deadline.Timeout.TheVariants.{Origin}
use Rattle.hc_attended.proofs.ForwardLemmas.{notes_due, origin_less}
use Rattle.hc_attended.proofs.NoteLemmas.{due_forgotten}
use Rattle.hc_attended.proofs.StepLemmas.{call_attended, none_moved, watched_attended}
use Rattle.hc_attended.proofs.attended.Attended.look_at_forward.Goals as goal

pub invariant_of-self : goal.invariant_of-self
invariant_of-self g c =
    let s = c.args.self.now in
    let f = c.args.forward in
    record {
      noted = call_attended s.times s.time.tick f s.peers c.lose.new.peers s.agenda c.forget.new.self c.lose.new.agenda
          (notes_due (origin_less f) (due_forgotten (same_timeout Origin) f s.agenda c.forget.new.self c.forget.ensures)) c.lose.ensures.only c.lose.ensures.absent (none_moved f c.lose.ensures.notes) c.lose.ensures.seen
          (λ ok. c.lose.ensures.timed s.times s.time.tick) s.noted;
    }

pub invariant_of-self-in-None : goal.invariant_of-self-in-None
invariant_of-self-in-None g c =
    let s = c.args.self.now in
    record {
      noted = watched_attended s.times s.time.tick c.args.forward s.peers s.agenda c.watch_forward.new.agenda c.watch_forward.ensures.notes c.watch_forward.ensures.watched s.noted;
    }
