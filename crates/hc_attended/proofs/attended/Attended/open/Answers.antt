use Rattle.hc_attended.proofs.AttendedLemmas.{client_connected, client_refused}
use Rattle.hc_attended.proofs.ClientLemmas.{client_opened}
use Rattle.hc_attended.proofs.attended.Attended.open.Goals as goal

pub invariant_of-self-2 : goal.invariant_of-self-2
invariant_of-self-2 g c =
    let now = c.args.self.now in
    record {
      noted = client_connected now.times now.time.tick now.time.tick c.args.stream now.peers c.open.new.self now.agenda c.give_turn_now.new.self c.watch_client.new.agenda c.args.number
          (client_opened c.args.number now.peers c.open.new.self _ _ c.in_ok-open.ensures.others c.in_ok-open.ensures.ok) c.in_ok-open.ensures.behind c.give_turn_now.ensures
          c.watch_client.ensures.notes c.watch_client.ensures.timed now.noted;
    }

pub invariant_of-self : goal.invariant_of-self
invariant_of-self g c =
    let now = c.args.self.now in
    record {
      noted = client_refused now.times now.time.tick now.peers c.open.new.self now.agenda c.args.number
          (client_opened c.args.number now.peers c.open.new.self _ _ c.open.ensures.others c.in_err-open.ensures.err) c.in_err-open.ensures.unused now.noted;
    }
