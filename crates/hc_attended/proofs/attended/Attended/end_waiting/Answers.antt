use Rattle.std.proofs.Common.{sym}
use Rattle.hc_agenda.specs.Due.{same_timeout}
use Rattle.hc_agenda.specs.declared.deadline.Timeout.TheVariants.{Place}
use Rattle.hc_attended.proofs.ForwardLemmas.{notes_due, place_less}
use Rattle.hc_attended.proofs.KeepingLemmas.{keeps_then}
use Rattle.hc_attended.proofs.LineLemmas.{line_left}
use Rattle.hc_attended.proofs.NoteLemmas.{due_forgotten}
use Rattle.hc_attended.proofs.StepLemmas.{calls_attended, none_moved, waits_no_more}
use Rattle.hc_attended.proofs.attended.Attended.end_waiting.Goals as goal

pub invariant_of-self : goal.invariant_of-self
invariant_of-self g c =
    let s = c.args.self.now in
    let f = c.args.forward in
    record {
      noted = waits_no_more s.times s.time.tick f s.peers s.agenda c.forget.new.self (sym c.if-not-is_waiting.ensures) (due_forgotten (same_timeout Place) f s.agenda c.forget.new.self c.forget.ensures) s.noted;
    }

pub invariant_of-self-2 : goal.invariant_of-self-2
invariant_of-self-2 g c =
    let s = c.args.self.now in
    let f = c.args.forward in
    let left = c.leave_places.new.self in
    record {
      noted = calls_attended s.times s.time.tick f s.peers left c.lose.new.peers s.agenda c.forget.new.self c.lose.new.agenda c.leave_places.ensures.rest
          (line_left f s.peers.places left.places c.leave_places.ensures.opened c.leave_places.ensures.awaited c.leave_places.ensures.unawaited)
          (notes_due (place_less f) (due_forgotten (same_timeout Place) f s.agenda c.forget.new.self c.forget.ensures)) c.lose.ensures.only c.lose.ensures.absent (none_moved f c.lose.ensures.notes) c.lose.ensures.seen
          (λ ok. c.lose.ensures.timed s.times s.time.tick) s.noted;
    }

pub returns-clause-kept : goal.returns-clause-kept
returns-clause-kept g c = keeps_then c.leave_places.ensures.kept c.lose.ensures.kept
