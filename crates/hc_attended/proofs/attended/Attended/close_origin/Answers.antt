use Rattle.std.proofs.Common.{◌∷◌}
use Rattle.hc_order.specs.Log.Move.{Closed}
use Rattle.hc_order.specs.declared.receiver.Receiver.TheVariants.{Origin}
use Rattle.hc_attended.proofs.LingeringLemmas.{forward_closed}
use Rattle.hc_attended.proofs.attended.Attended.close_origin.Goals as goal

pub invariant_of-self : goal.invariant_of-self
invariant_of-self g c =
    let s = c.args.self.now in
    record {
      noted = forward_closed c.args.forward s.time.tick s.times s.peers c.close_origin-closed.new.self c.linger.new.peers c.free_place.new.peers s.agenda c.linger.new.agenda c.free_place.new.agenda
          c.close_origin-closed.ensures.only c.close_origin-closed.ensures.behind c.linger.ensures.only c.linger.ensures.notes c.linger.ensures.attended c.free_place.ensures.frees s.noted;
    }

pub returns-clause-tells : goal.returns-clause-tells
returns-clause-tells g c bounds log t =
    c.free_place.ensures.kept.tells bounds (Closed (Origin c.args.forward) ∷ log) (c.linger.ensures.kept.tells bounds (Closed (Origin c.args.forward) ∷ log) (c.close_origin-closed.ensures.tells bounds log t))
