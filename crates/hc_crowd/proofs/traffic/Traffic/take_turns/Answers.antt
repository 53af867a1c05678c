use Rattle.std.proofs.lemmas.Result.{err_from_is_err_and}
use Rattle.hc_attended.proofs.KeepingLemmas.{keeps_then, then_hears, hears_nothing, hears_refused, keeps_nothing, keeps_refused}
use Rattle.hc_crowd.proofs.traffic.Traffic.take_turns.Goals as goal

pub returns-in_default-clause-heard : goal.returns-in_default-clause-heard
returns-in_default-clause-heard g c = hears_nothing c.turns.invariant

pub returns-in_err-happened-clause-heard : goal.returns-in_err-happened-clause-heard
returns-in_err-happened-clause-heard g c = let p = err_from_is_err_and c.from_residual.result c.from_residual.ensures.1 in rw p.1 (hears_refused (keeps_then c.turns.invariant (keeps_refused c.in_err-happened.ensures.heard)))

pub returns-in-Some-2-clause-heard : goal.returns-in-Some-2-clause-heard
returns-in-Some-2-clause-heard g c = then_hears c.turns.invariant (rw c.in-Some-2.is at c.in_ok-happened.ensures.heard)

pub turns-preserved : goal.turns-preserved
turns-preserved g c = keeps_then c.turns.invariant (keeps_nothing (rw c.in_default-2.is at c.in_ok-happened.ensures.heard))

pub returns-in_err-happened-clause-unbegun : goal.returns-in_err-happened-clause-unbegun
returns-in_err-happened-clause-unbegun g c = let p = err_from_is_err_and c.from_residual.result c.from_residual.ensures.1 in rw p.1 tt

pub returns-in-Some-2-clause-unbegun : goal.returns-in-Some-2-clause-unbegun
returns-in-Some-2-clause-unbegun g c = rw c.in-Some-2.is at c.in_ok-happened.ensures.unbegun
