use Rattle.hc_attended.proofs.NumberLemmas.{attends_numbered}
use Rattle.hc_attended.proofs.attended.Attended.next_guest.Goals as goal

pub invariant_of-self : goal.invariant_of-self
invariant_of-self g c =
    let now = c.args.self.now in
    record { noted = λ unrefused. attends_numbered now.times now.time.tick now.peers c.next_guest.new.self now.agenda c.next_guest.ensures.table c.next_guest.ensures.rest (now.noted unrefused) }
