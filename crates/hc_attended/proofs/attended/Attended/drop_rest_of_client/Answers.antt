use Rattle.hc_attended.proofs.AttendedLemmas.{client_seen}
use Rattle.hc_attended.proofs.ClientLemmas.{tends_begun}
use Rattle.hc_attended.proofs.KeepingLemmas.{keeps_then}
use Rattle.hc_attended.proofs.TendLemmas.{client_changes_then, client_only, tends_then}
use Rattle.hc_attended.proofs.attended.Attended.drop_rest_of_client.Goals as goal

pub invariant_of-self : goal.invariant_of-self
invariant_of-self g c =
    let now = c.args.self.now in
    record {
      noted = client_seen now.times now.time.tick now.peers c.drop_rest.new.peers c.see_to_client.new.peers now.agenda c.drop_rest.new.agenda c.see_to_client.new.agenda c.args.number
          (tends_then c.args.number now.times now.time.tick _ _ _ _ _ _
          (tends_begun c.args.number now.times now.time.tick now.peers c.begin_turn.new.peers now.agenda c.begin_turn.new.agenda (client_only c.args.number now.peers c.begin_turn.new.peers c.begin_turn.ensures.only) c.begin_turn.ensures.turns c.begin_turn.ensures.notes)
          (tends_then c.args.number now.times now.time.tick _ _ _ _ _ _ (c.lose_late.ensures.tends now.times now.time.tick c.begin_turn.new.agenda) (c.drop_rest.ensures.tends now.times now.time.tick)))
          (c.see_to_client.ensures.tends now.times) c.see_to_client.ensures.seen now.noted;
    }

pub returns-clause-kept : goal.returns-clause-kept
returns-clause-kept g c = keeps_then (keeps_then (keeps_then c.begin_turn.ensures.kept c.lose_late.ensures.kept) c.drop_rest.ensures.kept) c.see_to_client.ensures.kept

pub returns-clause-only : goal.returns-clause-only
returns-clause-only g c =
    let n = c.args.number in
    let now = c.args.self.now in
    client_changes_then n now.peers c.drop_rest.new.peers c.see_to_client.new.peers
    (client_changes_then n now.peers c.begin_turn.new.peers c.drop_rest.new.peers (client_only n now.peers c.begin_turn.new.peers c.begin_turn.ensures.only)
    (client_changes_then n c.begin_turn.new.peers c.lose_late.new.peers c.drop_rest.new.peers (c.lose_late.ensures.tends now.times now.time.tick c.begin_turn.new.agenda).only (c.drop_rest.ensures.tends now.times now.time.tick).only))
    (c.see_to_client.ensures.tends now.times).only
