use Rattle.hc_command.proofs.HeldLemmas.{failed_in, kept_in}
use Rattle.hc_command.proofs.run.reported.Goals as goal

pub returns-in-Ok : goal.returns-in-Ok
returns-in-Ok g c =
    kept_in c.args.form c.args.terms _ c.report-status.result c.kept.result _ _ _ _ _ c.report-status.ensures c.kept.ensures

pub returns-in-Err : goal.returns-in-Err
returns-in-Err g c = failed_in c.args.form.baseline c.args.form c.args.terms _ _ _ _ _ c.told.ensures
