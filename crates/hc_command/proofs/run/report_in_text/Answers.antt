use Rattle.hc_arguments.specs.Tasks.{form_of}
use Rattle.hc_command.proofs.HeldLemmas.{held_on, one_of_both, refused_on, unnamed_on}
use Rattle.hc_command.proofs.run.report_in_text.Goals as goal

pub returns-in_default : goal.returns-in_default
returns-in_default g c =
    unnamed_on c.args.form.baseline (λ name. name.now) (form_of c.args.form) c.args.terms c.report_alone.result _ _ _ _ c.in_default.is c.report_alone.ensures

pub returns-in-Ok : goal.returns-in-Ok
returns-in-Ok g c =
    held_on c.args.form.baseline (λ name. name.now) c.in-Some.name (form_of c.args.form) c.in-Ok.known c.args.terms c.reported.result _ _ _ _ c.in-Some.is c.reported.ensures

pub returns-in-Err : goal.returns-in-Err
returns-in-Err g c =
    refused_on c.args.form.baseline (λ name. name.now) c.in-Some.name (form_of c.args.form) c.args.terms c.told.result _ _ _ c.in-Some.is (one_of_both _ _ c.told.ensures)
