use Rattle.std.proofs.lemmas.Result.{err_from_is_err_and}
use Rattle.hc_status.proofs.LoopLemmas.{parameters_start, parameters_step, parameters_lack, parameters_end, parameter_shortens}
use Rattle.hc_status.proofs.parameters.parameters.Goals as goal

pub loop-behind-init : goal.loop-behind-init
loop-behind-init c = rw c.new-params.ensures (parameters_start c.args.text.now)

pub returns-in_err-param-clause-err : goal.returns-in_err-param-clause-err
returns-in_err-param-clause-err c =
    let p = err_from_is_err_and c.from_residual.result c.from_residual.ensures.1 in
    let lacks = parameters_lack c.in_err-param.field-0.0 c.args.text.now c.loop-behind.rest.now c.in-Some.behind.now c.loop-behind.params c.loop-behind.invariant c.in-Some.ensures.found c.in_err-param.ensures.err in
    rw (p.1, p.2) lacks

pub loop-behind-smaller : goal.loop-behind-smaller
loop-behind-smaller c =
    parameter_shortens c.in-Some.behind.now c.loop-behind.rest.now c.in_ok-param.param c.in_ok-param.behind.now c.in-Some.ensures.found c.in_ok-param.ensures.ok

pub loop-behind-preserved : goal.loop-behind-preserved
loop-behind-preserved c =
    rw c.in_ok-set.ensures
    (parameters_step c.args.text.now c.loop-behind.rest.now c.in-Some.behind.now c.loop-behind.params c.in_ok-param.param c.in_ok-param.behind.now c.loop-behind.invariant c.in-Some.ensures.found c.in_ok-param.ensures.ok)

pub returns-clause-ok : goal.returns-clause-ok
returns-clause-ok c = parameters_end c.args.text.now c.loop-behind.rest.now c.loop-behind.params c.loop-behind.invariant c.in_default.ensures.none
