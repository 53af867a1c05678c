use Rattle.hc_attended.proofs.AttendedLemmas.{client_seen}
use Rattle.hc_attended.proofs.ClientLemmas.{client_closed, tends_closed}
use Rattle.hc_attended.proofs.GroundLemmas.{client_fails_known}
use Rattle.hc_attended.proofs.TendLemmas.{client_changes_then}
use Rattle.hc_attended.proofs.attended.Attended.close_client.Goals as goal

pub invariant_of-self : goal.invariant_of-self
invariant_of-self g c =
    let now = c.args.self.now in
    record {
      noted = client_seen now.times now.time.tick now.peers c.close_client.new.self c.see_to_client.new.peers now.agenda now.agenda c.see_to_client.new.agenda c.args.number
          (tends_closed c.args.number now.times now.time.tick now.peers c.close_client.new.self now.agenda (client_closed c.args.number now.peers c.close_client.new.self _ c.close_client.ensures.others c.close_client.ensures.rest) c.close_client.ensures.behind)
          (c.see_to_client.ensures.tends now.times) c.see_to_client.ensures.seen now.noted;
    }

pub returns-clause-tells : goal.returns-clause-tells
returns-clause-tells g c = λ bounds log t. c.see_to_client.ensures.kept.tells bounds _ (c.close_client.ensures.tells bounds log t)

pub returns-clause-shown : goal.returns-clause-shown
returns-clause-shown g c = λ log s. c.see_to_client.ensures.kept.shown log (c.close_client.ensures.shown log s)

pub returns-clause-fails : goal.returns-clause-fails
returns-clause-fails g c = client_fails_known g.W.Stream.Stream.has_failed ⊥ c.args.number c.args.self.now.peers c.close_client.new.self c.see_to_client.new.peers c.close_client.ensures.fails c.see_to_client.ensures.known

pub returns-clause-only : goal.returns-clause-only
returns-clause-only g c =
    let now = c.args.self.now in
    client_changes_then c.args.number now.peers c.close_client.new.self c.see_to_client.new.peers (client_closed c.args.number now.peers c.close_client.new.self _ c.close_client.ensures.others c.close_client.ensures.rest)
    (c.see_to_client.ensures.tends now.times).only
