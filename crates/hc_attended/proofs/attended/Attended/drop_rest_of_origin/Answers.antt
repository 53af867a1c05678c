use Rattle.hc_order.specs.declared.receiver.Receiver.TheVariants.{Origin}
use Rattle.hc_attended.proofs.KeepingLemmas.{keeps_then}
use Rattle.hc_attended.proofs.LingeringLemmas.{rest_dropped, turn_begun}
use Rattle.hc_attended.proofs.NoteLemmas.{turn_taken}
use Rattle.hc_attended.proofs.attended.Attended.drop_rest_of_origin.Goals as goal

pub invariant_of-self : goal.invariant_of-self
invariant_of-self g c =
    let s = c.args.self.now in
    let f = c.args.forward in
    let turns = c.next.new.self in
    let dropped = c.drop_rest in
    record {
      noted = rest_dropped f s.time.tick s.times s.peers dropped.new.peers c.free_place.new.peers s.agenda (record s.agenda { turns = turns }) dropped.new.agenda c.free_place.new.agenda c.requires.lingers
          (turn_taken (Origin f) s.agenda turns (turn_begun (Origin f) c.next.result s.agenda.turns turns c.requires.turn c.next.ensures))
          dropped.ensures.only dropped.ensures.gains dropped.ensures.notes dropped.ensures.stands c.free_place.ensures.frees s.noted;
    }

pub returns-clause-kept : goal.returns-clause-kept
returns-clause-kept g c = keeps_then c.drop_rest.ensures.kept c.free_place.ensures.kept
