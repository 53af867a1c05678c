use Rattle.hc_attended.proofs.AttendedLemmas.{client_cut_off}
use Rattle.hc_attended.proofs.GroundLemmas.{client_cut}
use Rattle.hc_attended.proofs.KeepingLemmas.{keeps_then}
use Rattle.hc_attended.proofs.TendLemmas.{client_only}
use Rattle.hc_attended.proofs.attended.Attended.cut_off_client.Goals as goal

pub invariant_of-self : goal.invariant_of-self
invariant_of-self g c =
    let now = c.args.self.now in
    record {
      noted = client_cut_off now.times now.time.tick now.peers c.cut_off.new.self c.queue.new.self now.agenda c.give_turn_now.new.self c.args.number
          (client_only c.args.number now.peers c.cut_off.new.self c.cut_off.ensures.only) (client_only c.args.number c.cut_off.new.self c.queue.new.self c.queue.ensures.only)
          c.cut_off.ensures.behind c.queue.ensures.queued c.give_turn_now.ensures now.noted;
    }

pub returns-clause-kept : goal.returns-clause-kept
returns-clause-kept g c = keeps_then c.cut_off.ensures.kept c.queue.ensures.kept

pub returns-clause-cut : goal.returns-clause-cut
returns-clause-cut g c = client_cut c.args.number c.args.self.now.peers c.cut_off.new.self c.queue.new.self c.cut_off.ensures.behind c.queue.ensures.known
