use Rattle.std.proofs.Common.{◌≡◌, true}
use Rattle.hc_attended.proofs.AttendedLemmas.{client_seen}
use Rattle.hc_attended.proofs.ClientLemmas.{tends_learned}
use Rattle.hc_attended.proofs.GroundLemmas.{client_fails_known}
use Rattle.hc_attended.proofs.KeepingLemmas.{keeps_then}
use Rattle.hc_attended.proofs.TendLemmas.{client_changes_then, client_only}
use Rattle.hc_attended.proofs.attended.Attended.learn_of_client.Goals as goal

pub invariant_of-self : goal.invariant_of-self
invariant_of-self g c =
    let now = c.args.self.now in
    record {
      noted = client_seen now.times now.time.tick now.peers c.learn.new.peers c.see_to_client.new.peers now.agenda c.learn.new.agenda c.see_to_client.new.agenda c.args.number
          (tends_learned c.args.number now.times now.time.tick now.peers c.learn.new.peers now.agenda c.learn.new.agenda (client_only c.args.number now.peers c.learn.new.peers c.learn.ensures.only) c.args.readiness c.learn.ensures.behind c.learn.ensures.notes c.learn.ensures.marked)
          (c.see_to_client.ensures.tends now.times) c.see_to_client.ensures.seen now.noted;
    }

pub returns : goal.returns
returns g c =
    let now = c.args.self.now in
    record {
      kept = keeps_then c.learn.ensures.kept c.see_to_client.ensures.kept;
      fails = client_fails_known g.W.Stream.Stream.has_failed (c.args.readiness.failed ≡ true) c.args.number now.peers c.learn.new.peers c.see_to_client.new.peers c.learn.ensures.fails c.see_to_client.ensures.known;
      only = client_changes_then c.args.number now.peers c.learn.new.peers c.see_to_client.new.peers (client_only c.args.number now.peers c.learn.new.peers c.learn.ensures.only) (c.see_to_client.ensures.tends now.times).only;
    }
