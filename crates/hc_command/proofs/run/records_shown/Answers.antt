use Rattle.hc_command.proofs.ShowLemmas.{of_any}
use Rattle.hc_command.proofs.run.records_shown.Goals as goal

pub returns-in-Ok : goal.returns-in-Ok
returns-in-Ok g c = of_any c.args.span _ _ c.show.result _ _ _ _ c.show.ensures
