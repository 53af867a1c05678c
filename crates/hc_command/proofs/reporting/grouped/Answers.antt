use Rattle.std.proofs.Common.{refl, subst}
use Rattle.hc_history.specs.declared.settings.Settings.{Settings}
use Rattle.hc_report.specs.Kinds.{AreShownIn}
use Rattle.hc_report.specs.Told.{TellsOf}
use Rattle.hc_command.specs.Report.{Input, SurveysFor}
use Rattle.hc_command.proofs.ReportLemmas.{says_own, verdict_of_all}
use Rattle.hc_command.proofs.reporting.grouped.Goals as goal

pub returns : goal.returns
returns g c =
    let report = c.surveyed.new.witness in
    let outcome = c.in_ok-outcome.outcome in
    let settings = c.args.settings.now in
    let input : Input = record { had = g.R.Read.remaining c.args.input.now; left = g.R.Read.remaining c.surveyed.new.input } in
    let surveyed =
    subst (λ (s : Settings). SurveysFor (TellsOf report) (λ h. AreShownIn h report.wrongs.listed.items) ⊥ s input outcome)
    c.in_ok-copy-2.ensures (c.in_ok-outcome.ensures.surveyed c.in_ok-report.ensures.tells c.in_ok-report.ensures.hears) in
    record {
      verdict = c.verdict-verdict.result;
      is = verdict_of_all (TellsOf report) (λ h. AreShownIn h report.wrongs.listed.items) settings input outcome c.verdict-verdict.result surveyed
          (λ octets h wrongs told all. c.verdict-verdict.ensures.verdict octets settings h wrongs all (c.first_wrong.ensures wrongs told));
      says = says_own c.verdict-verdict.result _ _ _ c.in_ok-said_first.ensures.first;
      ends = (refl, refl);
    }
