use Rattle.std.proofs.Common.{false, inl, map, None, subst}
use Rattle.clap.specs.declared.error.ErrorKind.{ErrorKind}
use Rattle.hc_options.specs.Commands.{IsErrorStatus}
use Rattle.hc_arguments.specs.Tasks.{plain_proxy_task, task_of}
use Rattle.hc_arguments.specs.Tasks.Task.{ToServe, ToProxy}
use Rattle.hc_arguments.specs.Cache.{keys_served, plain_cache}
use Rattle.hc_arguments.proofs.ArgumentLemmas.{asked_from, one_task}
use Rattle.hc_proxy_prog.proofs.EndLemmas.{does_as, does_ends, fails_with_3}
use Rattle.hc_proxy_prog.proofs.answering.answered.Goals as goal

pub returns-in-Ok-clause-serve : goal.returns-in-Ok-clause-serve
returns-in-Ok-clause-serve g c = λ name listen origin number file connections one counts same.
    does_as (task_of c.in-Ok.order) (ToServe listen origin connections file (plain_cache keys_served)) _ _ _ _
    (c.in-Ok.ensures.serve name listen origin number file connections one counts same) c.done.ensures

pub returns-in-Ok-clause-proxy : goal.returns-in-Ok-clause-proxy
returns-in-Ok-clause-proxy g c = λ name listen origin one same.
    does_as (task_of c.in-Ok.order) (ToProxy (plain_proxy_task listen origin)) _ _ _ _
    (c.in-Ok.ensures.proxy name listen origin one same) c.done.ensures

pub returns-in-Ok-clause-asked : goal.returns-in-Ok-clause-asked
returns-in-Ok-clause-asked g c = λ task none asks.
    does_as (task_of c.in-Ok.order) task _ _ _ _ (one_task _ _ (task_of c.in-Ok.order) task c.in-Ok.ensures.asked asks) c.done.ensures

pub returns-in-Ok-clause-ends : goal.returns-in-Ok-clause-ends
returns-in-Ok-clause-ends g c = does_ends (task_of c.in-Ok.order) _ _ _ _ c.done.ensures

pub returns-in-Err-clause-serve : goal.returns-in-Err-clause-serve
returns-in-Err-clause-serve g c = λ name listen origin number file connections one counts same.
    let refused = c.in-Err.ensures.serve name listen origin number file connections one counts same in
    (c.shown.ensures.memory refused, inl (subst (λ (k : ErrorKind). IsErrorStatus k c.shown.result) refused c.shown.ensures.status))

pub returns-in-Err-clause-proxy : goal.returns-in-Err-clause-proxy
returns-in-Err-clause-proxy g c = λ name listen origin one same.
    let refused = c.in-Err.ensures.proxy name listen origin one same in
    (c.shown.ensures.memory refused, inl (subst (λ (k : ErrorKind). IsErrorStatus k c.shown.result) refused c.shown.ensures.status))

pub returns-in-Err-clause-asked : goal.returns-in-Err-clause-asked
returns-in-Err-clause-asked g c = λ task none asks.
    let refused = asked_from (map g.S.AsStr.text c.args.words.now) task c.in-Err.error none asks c.in-Err.ensures.refused in
    fails_with_3 task c.shown.result _ _ _ _
    (subst (λ (k : ErrorKind). IsErrorStatus k c.shown.result) refused c.shown.ensures.status) (c.shown.ensures.memory refused)
