use Rattle.std.proofs.Common.{List, length, ◌+◌, ap, ◌∙◌}
use Rattle.std.specs.BTreeMap.{get}
use Rattle.std.specs.Ordering.{nat_cmp}
use Rattle.hc_order.specs.declared.receiver.Receiver.{Receiver}
use Rattle.hc_order.specs.declared.receiver.Receiver.TheVariants.{Origin}
use Rattle.hc_attended.proofs.GroundLemmas.{forward_fails_turned}
use Rattle.hc_attended.proofs.OwingLemmas.{fewer_owed, first_taken, forward_taken, forward_written}
use Rattle.hc_attended.proofs.attended.Attended.write_to_forward.Goals as goal

pub invariant_of-self : goal.invariant_of-self
invariant_of-self g c =
    let now = c.args.self.now in
    record {
      noted = forward_written c.args.forward now.times now.time.tick now.time.tick now.peers c.write.new.self c.see_to_forward.new.peers now.agenda c.next_owed.new.self c.watch_on.new.agenda c.see_to_forward.new.agenda c.write.result
          c.next_owed.ensures.only (first_taken c.next_owed.result (Origin c.args.forward) _ _ c.next_owed.ensures.first c.requires.first) c.write.ensures.only c.write.ensures.behind
          c.watch_on.ensures.notes c.watch_on.ensures.watched c.see_to_forward.ensures.turns c.see_to_forward.ensures.notes c.see_to_forward.ensures.seen now.noted;
    }

pub returns-clause-tells : goal.returns-clause-tells
returns-clause-tells g c = λ bounds log t. c.see_to_forward.ensures.kept.tells bounds log (c.write.ensures.tells bounds log t)

pub returns-clause-fewer : goal.returns-clause-fewer
returns-clause-fewer g c =
    let now = c.args.self.now in
    let written = forward_taken c.args.forward c.write.result now.time.tick now.peers c.write.new.self c.write.ensures.behind in
    ap (λ (links : List Receiver). length links + 1) (c.see_to_forward.ensures.owed written ∙ c.watch_on.ensures.owed)
    ∙ fewer_owed (Origin c.args.forward) _ _ (first_taken c.next_owed.result (Origin c.args.forward) _ _ c.next_owed.ensures.first c.requires.first)

pub returns-clause-fails : goal.returns-clause-fails
returns-clause-fails g c =
    let f = c.args.forward in
    let turns = c.see_to_forward.ensures.turns in
    forward_fails_turned g.W.Stream.Stream.has_failed ⊥ turns.0.0 (get nat_cmp c.args.self.now.peers.forwards.links f) (get nat_cmp c.write.new.self.forwards.links f) (get nat_cmp c.see_to_forward.new.peers.forwards.links f) c.write.ensures.fails turns.0.1
