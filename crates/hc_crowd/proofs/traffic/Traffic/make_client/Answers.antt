use Rattle.std.proofs.Common.{[]}
use Rattle.hc_crowd.proofs.traffic.Traffic.make_client.Goals as goal

pub returns-clause-shown : goal.returns-clause-shown
returns-clause-shown g c = λ got log s. c.open.ensures.shown (c.rename.ensures.got [] got) log s
