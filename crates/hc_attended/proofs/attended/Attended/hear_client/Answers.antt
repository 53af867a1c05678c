use Rattle.hc_attended.proofs.AttendedLemmas.{client_seen}
use Rattle.hc_attended.proofs.ClientLemmas.{tends_begun, tends_heard}
use Rattle.hc_attended.proofs.KeepingLemmas.{hears_then, then_hears}
use Rattle.hc_attended.proofs.TendLemmas.{client_changes_then, client_only, tends_then}
use Rattle.hc_attended.proofs.attended.Attended.hear_client.Goals as goal

pub invariant_of-self : goal.invariant_of-self
invariant_of-self g c =
    let now = c.args.self.now in
    record {
      noted = client_seen now.times now.time.tick now.peers c.hear_client-heard.new.self c.see_to_client.new.peers now.agenda c.begin_turn.new.agenda c.see_to_client.new.agenda c.args.number
          (tends_then c.args.number now.times now.time.tick _ _ _ _ _ _
          (tends_begun c.args.number now.times now.time.tick now.peers c.begin_turn.new.peers now.agenda c.begin_turn.new.agenda (client_only c.args.number now.peers c.begin_turn.new.peers c.begin_turn.ensures.only) c.begin_turn.ensures.turns c.begin_turn.ensures.notes)
          (tends_heard c.args.number now.times now.time.tick c.begin_turn.new.peers c.hear_client-heard.new.self c.begin_turn.new.agenda (client_only c.args.number c.begin_turn.new.peers c.hear_client-heard.new.self c.hear_client-heard.ensures.only) c.args.hearing c.hear_client-heard.result c.requires.now c.hear_client-heard.ensures.behind))
          (c.see_to_client.ensures.tends now.times) c.see_to_client.ensures.seen now.noted;
    }

pub returns-clause-heard : goal.returns-clause-heard
returns-clause-heard g c = hears_then (then_hears c.begin_turn.ensures.kept c.hear_client-heard.ensures.heard) c.see_to_client.ensures.kept

pub returns-clause-only : goal.returns-clause-only
returns-clause-only g c =
    let n = c.args.number in
    let now = c.args.self.now in
    client_changes_then n now.peers c.hear_client-heard.new.self c.see_to_client.new.peers
    (client_changes_then n now.peers c.begin_turn.new.peers c.hear_client-heard.new.self (client_only n now.peers c.begin_turn.new.peers c.begin_turn.ensures.only) (client_only n c.begin_turn.new.peers c.hear_client-heard.new.self c.hear_client-heard.ensures.only))
    (c.see_to_client.ensures.tends now.times).only
