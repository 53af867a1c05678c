use Rattle.hc_attended.proofs.NoteLemmas.{notes_same}
use Rattle.hc_attended.proofs.StepLemmas.{call_attended, none_moved}
use Rattle.hc_attended.proofs.attended.Attended.cut_off.Goals as goal

pub invariant_of-self : goal.invariant_of-self
invariant_of-self g c =
    let s = c.args.self.now in
    let f = c.in-Origin.forward in
    record {
      noted = call_attended s.times s.time.tick f s.peers c.lose_now.new.peers s.agenda s.agenda c.lose_now.new.agenda (none_moved f (notes_same s.agenda)) c.lose_now.ensures.only c.lose_now.ensures.absent
          (none_moved f c.lose_now.ensures.notes) (λ ok marked. c.lose_now.ensures.seen ok) (λ ok. c.lose_now.ensures.timed s.times s.time.tick) s.noted;
    }
