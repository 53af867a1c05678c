use Rattle.std.proofs.Common.{List, ℕ, subst, sym}
use Rattle.std.specs.Io.KnownBytes.{Appends}
use Rattle.std.specs.Prelude.{string_bytes}
use Rattle.hc_history.specs.declared.settings.Settings.{Settings}
use Rattle.hc_auditing.specs.Line.{IsVerdictLine}
use Rattle.hc_report.specs.Kinds.{AreShownIn}
use Rattle.hc_report.specs.Told.{TellsOf}
use Rattle.hc_command.specs.Report.{Input, SurveysFor}
use Rattle.hc_command.proofs.ReportLemmas.{verdict_of_all}
use Rattle.hc_command.proofs.documenting.documented.Goals as goal

pub returns-in-Ok : goal.returns-in-Ok
returns-in-Ok g c =
    let naming = c.surveyed.new.witness in
    let outcome = c.in_ok-outcome.outcome in
    let settings = c.args.settings.now in
    let input : Input = record { had = g.R.Read.remaining c.args.twice.now.first; left = g.R.Read.remaining c.surveyed.new.input } in
    let surveyed =
    subst (λ (s : Settings). SurveysFor (TellsOf naming.report) (λ h. AreShownIn h naming.report.wrongs.listed.items) ⊥ s input outcome)
    c.in_ok-copy-2.ensures (c.in_ok-outcome.ensures.surveyed c.in_ok-naming.ensures.tells c.in_ok-naming.ensures.hears) in
    record {
      is = verdict_of_all (TellsOf naming.report) (λ h. AreShownIn h naming.report.wrongs.listed.items) settings input outcome c.verdict-verdict.result surveyed
          (λ octets h wrongs told all. c.verdict-verdict.ensures.verdict octets settings h wrongs all (c.first_wrong.ensures wrongs told));
      text = string_bytes c.in_ok-text.text;
      is_document = (
        c.as_str.result.now,
        subst (λ (l : List ℕ). IsVerdictLine c.verdict-verdict.result l) (sym c.as_str.ensures.value) c.in_ok-line.ensures,
        c.in_ok-text.ensures,
      );
      written = subst (λ (t : List ℕ). Appends (g.W.Write.contents c.args.output.now) (g.W.Write.contents c.printed.new.to) t) c.as_str-2.ensures.value c.in-Ok.ensures;
    }
