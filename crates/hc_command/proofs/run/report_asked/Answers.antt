use Rattle.std.proofs.Common.{true, false}
use Rattle.hc_arguments.specs.Tasks.{form_of}
use Rattle.hc_command.proofs.DocumentLemmas.{reported_as}
use Rattle.hc_command.proofs.run.report_asked.Goals as goal

pub returns-then-form : goal.returns-then-form
returns-then-form g c = reported_as c.args.form.html true (form_of c.args.form) c.args.terms c.document_asked.result _ _ _ _ c.if-form.true c.document_asked.ensures

pub returns-else-form : goal.returns-else-form
returns-else-form g c = reported_as c.args.form.html false (form_of c.args.form) c.args.terms c.report_in_text.result _ _ _ _ c.if-form.false c.report_in_text.ensures
