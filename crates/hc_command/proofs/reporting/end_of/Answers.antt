use Rattle.std.proofs.Common.{Option, refl, subst, sym}
use Rattle.hc_figures.specs.declared.baseline.Baseline.{Baseline}
use Rattle.hc_command.specs.declared.reporting.ReportEnd.{ReportEnd}
use Rattle.hc_command.specs.Reporting.{IsLast}
use Rattle.hc_command.proofs.reporting.end_of.Goals as goal

pub returns-in-Some : goal.returns-in-Some
returns-in-Some c = λ h wrongs told heard.
    let end : ReportEnd = record { verdict = c.held_against.result; gone = c.gone.result } in
    subst (λ (b : Option Baseline). IsLast b h wrongs c.args.outcome.now c.args.verdict.now end) (sym c.in-Some.is)
    (c.held_against.ensures h wrongs told heard, c.gone.ensures h wrongs told heard)

pub returns-in-None : goal.returns-in-None
returns-in-None c = λ h wrongs told heard.
    let end : ReportEnd = record { verdict = c.args.verdict.now; gone = 0 } in
    subst (λ (b : Option Baseline). IsLast b h wrongs c.args.outcome.now c.args.verdict.now end) (sym c.in-None.is) (refl, refl)
