use Rattle.hc_attended.proofs.GuestLemmas.{turned_away_kept}
use Rattle.hc_attended.proofs.KeepingLemmas.{keeps_then}
use Rattle.hc_attended.proofs.attended.Attended.drop_rest_of_guest.Goals as goal

pub invariant_of-self : goal.invariant_of-self
invariant_of-self g c =
    let s = c.args.self.now in record {
      noted = λ none. turned_away_kept s.times s.time.tick s.peers c.discard_turned_away.new.self s.agenda c.args.guest (c.discard_turned_away.ensures.rest, c.discard_turned_away.ensures.others) c.discard_turned_away.ensures.there (s.noted none);
    }

pub returns-then-discard_turned_away-clause-kept : goal.returns-then-discard_turned_away-clause-kept
returns-then-discard_turned_away-clause-kept g c = keeps_then c.discard_turned_away.ensures.kept c.drop_turned_away.ensures.kept
