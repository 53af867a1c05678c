use Rattle.std.proofs.Common.{subst}
use Rattle.hc_history.specs.declared.settings.Settings.{Settings}
use Rattle.hc_report.specs.Counting.{HasHeardOf, TellsAllOf}
use Rattle.hc_command.specs.declared.reporting.Concluded.{Concluded}
use Rattle.hc_command.specs.Report.{Input, SurveysFor}
use Rattle.hc_command.proofs.HeldLemmas.{ends_for, says_report}
use Rattle.hc_command.proofs.ReportLemmas.{verdict_of_all}
use Rattle.hc_command.proofs.reporting.counted.Goals as goal

pub returns : goal.returns
returns g c =
    let report = c.surveyed.new.witness in
    let outcome = c.in_ok-outcome.outcome in
    let settings = c.args.settings.now in
    let concluded : Concluded = record { outcome = outcome; verdict = c.verdict-verdict.result } in
    let input : Input = record { had = g.R.Read.remaining c.args.input.now; left = g.R.Read.remaining c.surveyed.new.input } in
    let surveyed =
    subst (λ (s : Settings). SurveysFor (TellsAllOf report) (HasHeardOf report) ⊥ s input outcome) c.in_ok-copy-2.ensures
    (c.in_ok-outcome.ensures.surveyed c.in_ok-report.ensures.tells c.in_ok-report.ensures.hears) in
    record {
      verdict = c.verdict-verdict.result;
      is = verdict_of_all (TellsAllOf report) (HasHeardOf report) settings input outcome c.verdict-verdict.result surveyed
          (λ octets h wrongs told all. c.verdict-verdict.ensures.verdict octets settings h wrongs all (c.first_wrong.ensures wrongs told));
      says = says_report c.args.form.now.json c.args.form.now.baseline report settings concluded _ input _ _ surveyed
          (λ octets h wrongs told all. c.verdict-verdict.ensures.verdict octets settings h wrongs all (c.first_wrong.ensures wrongs told)) c.in_ok-said_in.ensures;
      ends = ends_for c.args.form.now.baseline report settings c.verdict-verdict.result c.end_of-end.result outcome input surveyed c.end_of-end.ensures;
    }
