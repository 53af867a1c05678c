use Rattle.hc_attended.proofs.NoteLemmas.{notes_same}
use Rattle.hc_attended.proofs.StepLemmas.{call_attended, none_moved}
use Rattle.hc_attended.proofs.attended.Attended.give_up.Goals as goal

pub invariant_of-self : goal.invariant_of-self
invariant_of-self g c =
    let s = c.args.self.now in
    let f = c.args.forward in
    record {
      noted = call_attended s.times s.time.tick f s.peers c.lose.new.peers s.agenda s.agenda c.lose.new.agenda (none_moved f (notes_same s.agenda)) c.lose.ensures.only c.lose.ensures.absent
          (none_moved f c.lose.ensures.notes) c.lose.ensures.seen (λ ok. c.lose.ensures.timed s.times s.time.tick) s.noted;
    }
