use Rattle.std.proofs.Common.{IsSome, refl, subst, sym}
use Rattle.hc_connection.proofs.ForwardLemmas.{heard_kept}
use Rattle.hc_connection.proofs.forwards.Forwards.hear.Goals as goal

pub returns-in-Some-clause-kept : goal.returns-in-Some-clause-kept
returns-in-Some-clause-kept g c = λ log kept.
    let wrote = c.get_mut.follows.holds c.read_slot.new.slot in
    heard_kept g.O.Link.Link.has_given g.O.Link.Link.has_got c.args.self.now.links (c.get_mut.follows.lender c.read_slot.new.slot) c.args.forward c.in-Some.slot.now c.read_slot.new.slot
    (sym c.in-Some.ensures.value) (wrote.3 (subst IsSome c.in-Some.ensures.value refl)) log kept c.read_slot.result c.read_slot.ensures.kept
