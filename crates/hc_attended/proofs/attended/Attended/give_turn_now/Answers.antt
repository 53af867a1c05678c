use Rattle.std.proofs.Common.{true}
use Rattle.hc_attended.proofs.LaterLemmas.{turn_attended_at, stands_first}
use Rattle.hc_attended.proofs.NoteLemmas.{first_kept}
use Rattle.hc_attended.proofs.attended.Attended.give_turn_now.Goals as goal

pub invariant_of-self : goal.invariant_of-self
invariant_of-self g c =
    let now = c.args.self.now in
    record {
      noted = turn_attended_at c.args.link now.times now.time.tick now.peers c.queue.new.self now.agenda c.give_turn_now.new.self ((true, c.queue.ensures.queued), c.queue.ensures.only)
          (first_kept c.args.link now.agenda c.give_turn_now.new.self c.give_turn_now.ensures) (λ none marked. stands_first c.args.link c.queue.new.self now.agenda c.give_turn_now.new.self c.give_turn_now.ensures none) now.noted;
    }
