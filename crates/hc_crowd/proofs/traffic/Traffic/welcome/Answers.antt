use Rattle.std.proofs.lemmas.Result.{err_from_is_err_and}
use Rattle.hc_attended.proofs.KeepingLemmas.{keeps_within, within_then, then_hears_within, hears_nothing_within, hears_refused_within, within_nothing, within_refused}
use Rattle.hc_crowd.proofs.traffic.Traffic.welcome.Goals as goal

pub returns-in_default : goal.returns-in_default
returns-in_default g c = record { heard = hears_nothing_within (within_then c.knocks.invariant (keeps_within c.next_knocking.ensures.kept)) }

pub returns-in_err-happened : goal.returns-in_err-happened
returns-in_err-happened g c = let p = err_from_is_err_and c.from_residual.result c.from_residual.ensures.1 in rw p.1 (record { heard = hears_refused_within (within_then (within_then c.knocks.invariant (keeps_within c.next_knocking.ensures.kept)) (within_refused c.in_err-happened.ensures.heard)) })

pub returns-in-Some-2 : goal.returns-in-Some-2
returns-in-Some-2 g c = record { heard = then_hears_within (within_then c.knocks.invariant (keeps_within c.next_knocking.ensures.kept)) (rw c.in-Some-2.is at c.in_ok-happened.ensures.heard) }

pub knocks-preserved : goal.knocks-preserved
knocks-preserved g c = within_then (within_then c.knocks.invariant (keeps_within c.next_knocking.ensures.kept)) (within_nothing (rw c.in_default-2.is at c.in_ok-happened.ensures.heard))
