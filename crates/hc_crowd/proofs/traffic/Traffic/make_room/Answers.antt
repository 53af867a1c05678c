use Rattle.hc_crowd.proofs.traffic.Traffic.make_room.Goals as goal

pub returns-clause-kept : goal.returns-clause-kept
returns-clause-kept g c = c.give_way.ensures.kept
