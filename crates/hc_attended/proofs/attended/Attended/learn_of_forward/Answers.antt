use Rattle.std.proofs.Common.{◌≡◌, true}
use Rattle.std.specs.BTreeMap.{get}
use Rattle.std.specs.Ordering.{nat_cmp}
use Rattle.hc_order.specs.declared.receiver.Receiver.TheVariants.{Origin}
use Rattle.hc_peers.specs.Peers.{is_failed_by}
use Rattle.hc_attended.proofs.GroundLemmas.{forward_fails_turned}
use Rattle.hc_attended.proofs.TendLemmas.{forward_changes_then}
use Rattle.hc_attended.proofs.KeepingLemmas.{keeps_then}
use Rattle.hc_attended.proofs.StepLemmas.{learned_attended}
use Rattle.hc_attended.proofs.attended.Attended.learn_of_forward.Goals as goal

pub invariant_of-self : goal.invariant_of-self
invariant_of-self g c =
    let s = c.args.self.now in
    let learned = c.learn.new in
    let seen = c.see_to_forward.new in
    record {
      noted = learned_attended s.times s.time.tick c.args.forward s.peers learned.peers seen.peers s.agenda learned.agenda seen.agenda c.learn.ensures.only c.learn.ensures.absent c.learn.ensures.notes c.learn.ensures.marked
          (c.learn.ensures.timed s.times s.time.tick) c.see_to_forward.ensures.turns c.see_to_forward.ensures.notes c.see_to_forward.ensures.seen s.noted;
    }

pub returns : goal.returns
returns g c =
    let now = c.args.self.now in
    let f = c.args.forward in
    let turns = c.see_to_forward.ensures.turns in
    record {
      kept = keeps_then c.learn.ensures.kept c.see_to_forward.ensures.kept;
      fails = forward_fails_turned g.W.Stream.Stream.has_failed (is_failed_by c.args.readiness (Origin f) now.peers ≡ true) turns.0.0 (get nat_cmp now.peers.forwards.links f) (get nat_cmp c.learn.new.peers.forwards.links f) (get nat_cmp c.see_to_forward.new.peers.forwards.links f) c.learn.ensures.fails turns.0.1;
      only = forward_changes_then f now.peers c.learn.new.peers c.see_to_forward.new.peers c.learn.ensures.only turns.1;
    }
