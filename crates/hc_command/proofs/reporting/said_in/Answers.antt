use Rattle.std.proofs.Common.{Bool, Option, subst, sym}
use Rattle.std.proofs.lemmas.Result.{IfOk-weaker}
use Rattle.hc_figures.specs.declared.baseline.Baseline.{Baseline}
use Rattle.hc_command.specs.Reporting.{WritesIn, WritesInJson}
use Rattle.hc_command.proofs.reporting.said_in.Goals as goal

pub returns-then-form : goal.returns-then-form
returns-then-form g c =
    let report = c.args.report in
    let base = c.args.form.now.baseline in
    let concluded = c.args.concluded.now in
    let old = g.W.Write.contents c.args.output.now in
    let new = g.W.Write.contents c.said_in_json.new.output in
    IfOk-weaker c.said_in_json.result _ _
    (λ status said.
    subst (λ (json : Bool). WritesIn json report base c.args.settings.now concluded status old new) (sym c.if-form.true)
    (subst (λ (b : Option Baseline). WritesInJson report b c.args.settings.now concluded status old new) c.as_ref-baseline.ensures.value said))
    c.said_in_json.ensures

pub returns-else-form : goal.returns-else-form
returns-else-form g c =
    let report = c.args.report in
    let base = c.args.form.now.baseline in
    let concluded = c.args.concluded.now in
    let old = g.W.Write.contents c.args.output.now in
    let new = g.W.Write.contents c.said_in_text.new.output in
    IfOk-weaker c.said_in_text.result _ _ (λ status said. subst (λ (json : Bool). WritesIn json report base c.args.settings.now concluded status old new) (sym c.if-form.false) said) c.said_in_text.ensures
