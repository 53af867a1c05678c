use Rattle.hc_attended.proofs.KeepingLemmas.{keeps_then}
use Rattle.hc_crowd.proofs.DueLemmas.{comes}
use Rattle.hc_crowd.proofs.traffic.Traffic.pass.Goals as goal

pub due-preserved : goal.due-preserved
due-preserved g c = keeps_then c.due.invariant c.end_time.ensures.kept

pub end_time-requires : goal.end_time-requires
end_time-requires g c = record { due = comes c.args.timeout c.in-Some.deadline c.due.self.links.time.tick c.due.self.links.agenda (rw c.in-Some.is at c.due-in-due.ensures) }
