use Rattle.std.proofs.Common.{◌∙◌}
use Rattle.hc_order.specs.declared.receiver.Receiver.TheVariants.{Client}
use Rattle.hc_attended.proofs.GroundLemmas.{client_fails_known}
use Rattle.hc_attended.proofs.OwingLemmas.{client_written, first_taken}
use Rattle.hc_attended.proofs.TendLemmas.{client_changes_then, client_only}
use Rattle.hc_attended.proofs.attended.Attended.write_to_client.Goals as goal

pub invariant_of-self : goal.invariant_of-self
invariant_of-self g c =
    let now = c.args.self.now in
    record {
      noted = client_written now.times now.time.tick now.peers c.write.new.self c.see_to_client.new.peers now.agenda c.next_owed.new.self c.see_to_client.new.agenda c.args.number c.write.result
          c.next_owed.ensures.only (first_taken c.next_owed.result (Client c.args.number) _ _ c.next_owed.ensures.first c.requires.first)
          (client_only c.args.number now.peers c.write.new.self c.write.ensures.only) c.write.ensures.behind (c.see_to_client.ensures.tends now.times) c.see_to_client.ensures.seen now.noted;
    }

pub returns-clause-tells : goal.returns-clause-tells
returns-clause-tells g c = λ bounds log t. c.see_to_client.ensures.kept.tells bounds log (c.write.ensures.tells bounds log t)

pub returns-clause-places : goal.returns-clause-places
returns-clause-places g c = (c.see_to_client.ensures.tends c.args.self.now.times).only.places ∙ (client_only c.args.number c.args.self.now.peers c.write.new.self c.write.ensures.only).places

pub returns-clause-fails : goal.returns-clause-fails
returns-clause-fails g c = client_fails_known g.W.Stream.Stream.has_failed ⊥ c.args.number c.args.self.now.peers c.write.new.self c.see_to_client.new.peers c.write.ensures.fails c.see_to_client.ensures.known

pub returns-clause-others : goal.returns-clause-others
returns-clause-others g c =
    let n = c.args.number in
    let now = c.args.self.now in
    let both = client_changes_then n now.peers c.write.new.self c.see_to_client.new.peers (client_only n now.peers c.write.new.self c.write.ensures.only) (c.see_to_client.ensures.tends now.times).only in
    (both.clients, both.forwards)
