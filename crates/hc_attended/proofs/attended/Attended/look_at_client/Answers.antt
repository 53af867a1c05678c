use Rattle.hc_attended.proofs.AttendedLemmas.{client_looked_at, client_watched, no_more}
use Rattle.hc_attended.proofs.attended.Attended.look_at_client.Goals as goal

pub invariant_of-self : goal.invariant_of-self
invariant_of-self g c =
    let now = c.args.self.now in
    record {
      noted = client_looked_at now.times now.time.tick _ now.peers c.give_turn.new.peers now.agenda c.give_turn.new.agenda c.note.new.self c.args.number c.give_turn.ensures.turns c.give_turn.ensures.notes
          c.give_turn.ensures.stands c.note.ensures (no_more now.time.tick _ _ _ c.saturating_add-look.ensures) now.noted;
    }

pub invariant_of-self-else-is_overdue : goal.invariant_of-self-else-is_overdue
invariant_of-self-else-is_overdue g c =
    let now = c.args.self.now in
    record {
      noted = client_watched now.times now.time.tick now.peers now.agenda c.watch_client.new.agenda c.args.number c.watch_client.ensures.notes c.watch_client.ensures.timed now.noted;
    }
