use Rattle.std.proofs.Common.{sym}
use Rattle.hc_attended.proofs.KeepingLemmas.{keeps_then}
use Rattle.hc_crowd.proofs.traffic.Traffic.wait.Goals as goal

pub returns : goal.returns
returns g c = record {
  kept = rw c.begin_batch-2.ensures.peers
      (rw (sym c.look_for_room.ensures.peers, sym c.look_at_clock.ensures.peers) (keeps_then (keeps_then c.learn_all.ensures.kept c.pass_all.ensures.kept) c.heed_stop.ensures.kept));
}
