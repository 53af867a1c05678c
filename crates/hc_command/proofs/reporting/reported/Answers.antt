use Rattle.hc_command.proofs.HeldLemmas.{says_as}
use Rattle.hc_command.proofs.reporting.reported.Goals as goal

pub returns-in-None : goal.returns-in-None
returns-in-None g c = says_as c.args.form.now.json c.args.form.now.baseline c.grouped.result c.args.settings.now _ _ _ c.if-form.false c.in-None.is c.grouped.ensures
