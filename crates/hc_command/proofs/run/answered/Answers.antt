use Rattle.std.proofs.Common.{false, inl, inr, map, None, subst}
use Rattle.clap.specs.declared.error.ErrorKind.{ErrorKind}
use Rattle.hc_options.specs.Commands.{IsErrorStatus}
use Rattle.hc_arguments.specs.Tasks.{task_of}
use Rattle.hc_arguments.specs.Tasks.Task.{ToAudit, ToReport, ToExplain, ToReplay, ToConvert}
use Rattle.hc_options.specs.Auditing.{plain_audit}
use Rattle.hc_arguments.specs.Tasks.{explaining, plain_form}
use Rattle.hc_arguments.proofs.ArgumentLemmas.{asked_from, one_task}
use Rattle.hc_command.proofs.EndLemmas.{does_as, does_ends, fails_with_3}
use Rattle.hc_command.proofs.run.answered.Goals as goal

pub returns-in-Ok-clause-audit : goal.returns-in-Ok-clause-audit
returns-in-Ok-clause-audit g c = λ name file word same.
    does_as (task_of c.in-Ok.order) (ToAudit file plain_audit) _ _ _ _ _ (c.in-Ok.ensures.audit name file word same) c.done.ensures

pub returns-in-Ok-clause-report : goal.returns-in-Ok-clause-report
returns-in-Ok-clause-report g c = λ name file word same.
    does_as (task_of c.in-Ok.order) (ToReport file plain_audit plain_form) _ _ _ _ _ (c.in-Ok.ensures.report name file word same) c.done.ensures

pub returns-in-Ok-clause-explain : goal.returns-in-Ok-clause-explain
returns-in-Ok-clause-explain g c = λ name file word same.
    does_as (task_of c.in-Ok.order) (ToExplain file (explaining None)) _ _ _ _ _ (c.in-Ok.ensures.explain name file word same) c.done.ensures

pub returns-in-Ok-clause-replay : goal.returns-in-Ok-clause-replay
returns-in-Ok-clause-replay g c = λ name file word same.
    does_as (task_of c.in-Ok.order) (ToReplay file) _ _ _ _ _ (c.in-Ok.ensures.replay name file word same) c.done.ensures

pub returns-in-Ok-clause-convert : goal.returns-in-Ok-clause-convert
returns-in-Ok-clause-convert g c = λ name file word same.
    does_as (task_of c.in-Ok.order) (ToConvert file) _ _ _ _ _ (c.in-Ok.ensures.convert name file word same) c.done.ensures

pub returns-in-Ok-clause-asked : goal.returns-in-Ok-clause-asked
returns-in-Ok-clause-asked g c = λ task none asks.
    does_as (task_of c.in-Ok.order) task _ _ _ _ _ (one_task _ _ (task_of c.in-Ok.order) task c.in-Ok.ensures.asked asks) c.done.ensures

pub returns-in-Ok-clause-ends : goal.returns-in-Ok-clause-ends
returns-in-Ok-clause-ends g c = does_ends (task_of c.in-Ok.order) _ _ _ _ _ c.done.ensures

pub returns-in-Err-clause-audit : goal.returns-in-Err-clause-audit
returns-in-Err-clause-audit g c = λ name file word same.
    inl (subst (λ (k : ErrorKind). IsErrorStatus k c.shown.result) (c.in-Err.ensures.audit name file word same) c.shown.ensures.status)

pub returns-in-Err-clause-report : goal.returns-in-Err-clause-report
returns-in-Err-clause-report g c = λ name file word same.
    inl (subst (λ (k : ErrorKind). IsErrorStatus k c.shown.result) (c.in-Err.ensures.report name file word same) c.shown.ensures.status)

pub returns-in-Err-clause-explain : goal.returns-in-Err-clause-explain
returns-in-Err-clause-explain g c = λ name file word same.
    inr (inl (subst (λ (k : ErrorKind). IsErrorStatus k c.shown.result) (c.in-Err.ensures.explain name file word same) c.shown.ensures.status))

pub returns-in-Err-clause-replay : goal.returns-in-Err-clause-replay
returns-in-Err-clause-replay g c = λ name file word same.
    inl (subst (λ (k : ErrorKind). IsErrorStatus k c.shown.result) (c.in-Err.ensures.replay name file word same) c.shown.ensures.status)

pub returns-in-Err-clause-convert : goal.returns-in-Err-clause-convert
returns-in-Err-clause-convert g c = λ name file word same.
    inl (subst (λ (k : ErrorKind). IsErrorStatus k c.shown.result) (c.in-Err.ensures.convert name file word same) c.shown.ensures.status)

pub returns-in-Err-clause-asked : goal.returns-in-Err-clause-asked
returns-in-Err-clause-asked g c = λ task none asks.
    let refused = asked_from (map g.S.AsStr.text c.args.words.now) task c.in-Err.error none asks c.in-Err.ensures.refused in
    fails_with_3 task c.shown.result _ _ _ _
    (subst (λ (k : ErrorKind). IsErrorStatus k c.shown.result) refused c.shown.ensures.status) (c.shown.ensures.memory refused)
