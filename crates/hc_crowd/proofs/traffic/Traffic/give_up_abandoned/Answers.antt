use Rattle.hc_crowd.proofs.SweepLemmas.{sweep_attended}
use Rattle.hc_attended.proofs.KeepingLemmas.{keeps_then}
use Rattle.hc_crowd.proofs.traffic.Traffic.give_up_abandoned.Goals as goal

pub forwards-preserved : goal.forwards-preserved
forwards-preserved g c = keeps_then c.forwards.invariant c.look_who_waits.ensures.kept

pub returns-in_err-look_who_waits : goal.returns-in_err-look_who_waits
returns-in_err-look_who_waits g c = record { kept = keeps_then c.forwards.invariant c.look_who_waits.ensures.kept }

pub invariant_of-self : goal.invariant_of-self
invariant_of-self g c =
    let links = c.args.self.now.links in
    record { noted = sweep_attended links.times links.time.tick links.peers links.agenda c.takes_sweep.new.self _ c.takes_sweep.ensures.once links.noted }
