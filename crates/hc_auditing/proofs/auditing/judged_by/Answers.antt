use Rattle.std.proofs.Common.{[], inl}
use Rattle.std.proofs.lemmas.Result.{IfOk-weaker}
use Rattle.hc_history.specs.Verdicts.{IsVerdict}
use Rattle.hc_auditing.proofs.AuditLemmas.{at_end, settled_at, settled_verdict}
use Rattle.hc_auditing.proofs.auditing.judged_by.Goals as goal

pub returns-in-Some-clause-verdict : goal.returns-in-Some-clause-verdict
returns-in-Some-clause-verdict g c = λ settings agrees.
    let pulled = c.in_ok-verdict.ensures.pulled in
    settled_verdict g.I.Index.seen settings c.pull.new.fed _ _ pulled.octets c.in_ok-verdict.field-0 c.in-Some.verdict
    (pulled.goes_by settings [] agrees) pulled.consumed c.in-Some.is

pub returns-in-Some-clause-concluded : goal.returns-in-Some-clause-concluded
returns-in-Some-clause-concluded g c = λ settings agrees.
    let pulled = c.in_ok-verdict.ensures.pulled in
    settled_at g.I.Index.seen settings c.pull.new.fed _ _ pulled.octets c.in_ok-verdict.field-0 c.in-Some.verdict
    (pulled.goes_by settings [] agrees) pulled.consumed c.in-Some.is

pub returns-in-None-clause-verdict : goal.returns-in-None-clause-verdict
returns-in-None-clause-verdict g c = λ settings agrees.
    let pulled = c.in_ok-verdict.ensures.pulled in
    let fed = pulled.goes_by settings [] agrees in
    IfOk-weaker c.finished.result _ _ (λ verdict is.
    at_end (λ o. IsVerdict o settings verdict) _ _ pulled.octets pulled.consumed (c.in_ok-verdict.ensures.end c.in-None.is) is)
    (c.finished.ensures.verdict settings pulled.octets fed.agrees)
