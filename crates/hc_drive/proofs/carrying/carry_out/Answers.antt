use Rattle.std.proofs.Common.{◌∙◌, arith, List, subst}
use Rattle.std.proofs.lemmas.List.{take_all}
use Rattle.std.proofs.lemmas.Result.{err_from_is_err_and}
use Rattle.hc_service.specs.declared.action.Action.{Action}
use Rattle.hc_links.proofs.KeepingLemmas.{links_stay, recorder_stays}
use Rattle.hc_drive.specs.Carrying.{AreDone}
use Rattle.hc_drive.proofs.CarryLemmas.{cut_next, done_next}
use Rattle.hc_drive.proofs.carrying.carry_out.Goals as goal

pub returns-in_err-carry_out_one-clause-done : goal.returns-in_err-carry_out_one-clause-done
returns-in_err-carry_out_one-clause-done g c =
    let p = err_from_is_err_and c.from_residual.result c.from_residual.ensures.1 in
    rw p.1 (λ log text told held.
    let d = c.actions.invariant.done log text told held in
    cut_next (g.L.Links.tells c.carry_out_one.new.links) (g.R.Link.has_got c.carry_out_one.new.recorder) c.args.actions.now c.actions.action-index c.action-item.result c.action-item.is c.actions-test.true log text
    (c.in_err-carry_out_one.ensures.done _ _ d.0 d.1))

pub actions-preserved : goal.actions-preserved
actions-preserved g c = record {
  done = λ log text told held.
      let d = c.actions.invariant.done log text told held in
      done_next (g.L.Links.tells c.carry_out_one.new.links) (g.R.Link.has_got c.carry_out_one.new.recorder) c.args.actions.now c.actions.action-index c.action-item.result c.action-item.is c.actions-test.true log text
      (c.in_ok-carry_out_one.ensures.done _ _ d.0 d.1);
  links = links_stay c.actions.invariant.links c.in_ok-carry_out_one.ensures.links;
  recorder = recorder_stays c.actions.invariant.recorder c.in_ok-carry_out_one.ensures.recorder;
  count = c.in_ok-carry_out_one.ensures.count ∙ c.actions.invariant.count;
}

pub returns-clause-done : goal.returns-clause-done
returns-clause-done g c = λ log text told held.
    let all = take_all c.actions.action-index c.args.actions.now (omega (arith, c.actions-test.false)) in
    subst (λ (t : List Action). AreDone (g.L.Links.tells c.actions.links) (g.R.Link.has_got c.actions.recorder) t log text) all
    (c.actions.invariant.done log text told held)
