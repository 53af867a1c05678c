use Rattle.hc_crowd.proofs.SweepLemmas.{sweep_attended}
use Rattle.hc_crowd.proofs.traffic.Traffic.look_again.Goals as goal

pub invariant_of-self : goal.invariant_of-self
invariant_of-self g c =
    let links = c.args.self.now.links in
    record { noted = sweep_attended links.times links.time.tick links.peers links.agenda c.sweep_by.new.self _ c.sweep_by.ensures links.noted }
