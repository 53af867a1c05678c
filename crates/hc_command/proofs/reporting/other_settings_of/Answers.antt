use Rattle.std.proofs.Common.{inr, refl}
use Rattle.hc_report.specs.Made.{made_by}
use Rattle.hc_command.proofs.HeldLemmas.{made_by_others, made_by_these}
use Rattle.hc_command.proofs.reporting.other_settings_of.Goals as goal

pub returns-in-Ok-Some-clause-some : goal.returns-in-Ok-Some-clause-some
returns-in-Ok-Some-clause-some g c = inr (refl, made_by_others (made_by c.args.baseline.now c.args.settings.now) (rw c.in-Ok-Some.field-0-is at c.in-Ok-Some.ensures))

pub returns-in-Ok-None-clause-none : goal.returns-in-Ok-None-clause-none
returns-in-Ok-None-clause-none g c = λ none. made_by_these (made_by c.args.baseline.now c.args.settings.now) (rw c.in-Ok-None.field-0-is at c.in-Ok-None.ensures)
