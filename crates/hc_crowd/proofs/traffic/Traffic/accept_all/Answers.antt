use Rattle.hc_attended.proofs.KeepingLemmas.{within_then}
use Rattle.hc_crowd.proofs.traffic.Traffic.accept_all.Goals as goal

pub returns-in_err-accept : goal.returns-in_err-accept
returns-in_err-accept g c = record { kept = within_then c.arrivals.invariant c.accept.ensures.kept }

pub returns-then-not-branch : goal.returns-then-not-branch
returns-then-not-branch g c = record { kept = within_then c.arrivals.invariant c.accept.ensures.kept }

pub arrivals-preserved : goal.arrivals-preserved
arrivals-preserved g c = within_then c.arrivals.invariant c.accept.ensures.kept
