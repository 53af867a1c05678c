use Rattle.std.proofs.Common.{◌≡◌, ◌⊎◌, IfSome, Option, subst, sym}
use Rattle.hc_figures.specs.declared.baseline.Baseline.{Baseline}
use Rattle.hc_command.specs.Reporting.{IsMadeBy, IsMadeByOthers}
use Rattle.hc_command.proofs.reporting.other_settings.Goals as goal

pub returns-in-Some-clause-some : goal.returns-in-Some-clause-some
returns-in-Some-clause-some g c =
    subst (λ (b : Option Baseline). IfSome c.other_settings_of.result (λ status. (status ≡ 3) ⊎ ((status ≡ 64) × IsMadeByOthers b c.args.settings.now))) (sym c.in-Some.is)
    c.other_settings_of.ensures.some

pub returns-in-Some-clause-none : goal.returns-in-Some-clause-none
returns-in-Some-clause-none g c = λ none. subst (λ (b : Option Baseline). IsMadeBy b c.args.settings.now) (sym c.in-Some.is) (c.other_settings_of.ensures.none none)

pub returns-in-None-clause-none : goal.returns-in-None-clause-none
returns-in-None-clause-none g c = λ none. subst (λ (b : Option Baseline). IsMadeBy b c.args.settings.now) (sym c.in-None.is) tt
