use Rattle.hc_agenda.specs.Due.{same_timeout}
use Rattle.hc_agenda.specs.declared.deadline.Timeout.TheVariants.{OriginLingering}
use Rattle.hc_attended.proofs.KeepingLemmas.{keeps_then}
use Rattle.hc_attended.proofs.LingeringLemmas.{lingering_dropped}
use Rattle.hc_attended.proofs.NoteLemmas.{due_forgotten}
use Rattle.hc_attended.proofs.attended.Attended.drop_lingering.Goals as goal

pub invariant_of-self : goal.invariant_of-self
invariant_of-self g c =
    let s = c.args.self.now in
    let f = c.args.forward in
    record {
      noted = lingering_dropped f s.time.tick s.times s.peers c.drop_lingering.new.self c.free_place.new.peers s.agenda c.forget.new.self c.free_place.new.agenda (c.drop_lingering.ensures.rest, c.drop_lingering.ensures.same)
          c.drop_lingering.ensures.behind (due_forgotten (same_timeout OriginLingering) f s.agenda c.forget.new.self c.forget.ensures) c.free_place.ensures.frees s.noted;
    }

pub returns-clause-kept : goal.returns-clause-kept
returns-clause-kept g c = keeps_then c.drop_lingering.ensures.kept c.free_place.ensures.kept
