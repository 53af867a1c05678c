use Rattle.hc_attended.proofs.LaterLemmas.{attended_later}
use Rattle.hc_attended.proofs.attended.Attended.look_at_clock.Goals as goal

pub invariant_of-self : goal.invariant_of-self
invariant_of-self g c =
    let now = c.args.self.now in
    record { noted = λ none. attended_later now.times now.time.tick c.look.new.self.tick now.peers now.agenda c.look.ensures (now.noted none) }
