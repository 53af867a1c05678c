use Rattle.hc_attended.proofs.KeepingLemmas.{keeps_then}
use Rattle.hc_crowd.proofs.traffic.Traffic.pass_all.Goals as goal

pub returns : goal.returns
returns g c = record { kept = keeps_then (keeps_then (keeps_then (keeps_then (keeps_then (keeps_then (keeps_then c.pass.ensures.kept c.pass-2.ensures.kept) c.pass-3.ensures.kept) c.pass-4.ensures.kept) c.pass-5.ensures.kept) c.pass-6.ensures.kept) c.pass-7.ensures.kept) c.pass-8.ensures.kept }
