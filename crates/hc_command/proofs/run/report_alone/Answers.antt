use Rattle.hc_arguments.specs.Tasks.{form_of}
use Rattle.hc_command.proofs.HeldLemmas.{alone_refused, alone_reported}
use Rattle.hc_command.proofs.run.report_alone.Goals as goal

pub returns-then-form : goal.returns-then-form
returns-then-form g c = alone_refused c.args.form.strict (form_of c.args.form) c.args.terms c.refused.result _ _ _ _ c.if-form.true (c.refused.ensures.status, c.refused.ensures.quiet)

pub returns : goal.returns
returns g c = alone_reported c.args.form.strict (form_of c.args.form) c.args.terms c.reported.result _ _ _ _ c.if-form.false c.reported.ensures
