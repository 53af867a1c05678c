use Rattle.std.proofs.Common.{◌∙◌, sym}
use Rattle.hc_scripts.proofs.ReplayLemmas.{broken, replayed}
use Rattle.hc_scripts.proofs.replaying.replay.Goals as goal

pub returns-in_err-script-clause-err : goal.returns-in_err-script-clause-err
returns-in_err-script-clause-err c = broken c.args.script.now c.in_err-script.field-0.0 c.from_residual.result c.in_err-script.ensures.err c.from_residual.ensures.1

pub returns-clause-ok : goal.returns-clause-ok
returns-clause-ok c =
    let whole = sym c.is_cut_off.ensures ∙ c.if-is_cut_off.false in
    replayed c.args.script.now c.in_ok-script.script.keys c.in_ok-script.script.bytes c.in_ok-script.script.events.items c.in_ok-settings.field-0
    c.in_ok-run.run'.results.items c.in_ok-run.run'.transcript c.in_ok-verdict.verdict c.in_ok-script.ensures.ok c.in_ok-settings.ensures c.in_ok-run.ensures.ok
    whole (rw c.as_slice.ensures at c.in_ok-verdict.ensures)
