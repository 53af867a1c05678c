use Rattle.std.proofs.Common.{IfErr, IfOk, Some}
use Rattle.std.proofs.lemmas.Result.{IfErr-weaker, IfOk-weaker}
use Rattle.serde_json.specs.View.{view}
use Rattle.hc_figures.specs.Reports.{IsBaseline}
use Rattle.hc_figures.specs.declared.baseline.Baseline.{Baseline}
use Rattle.hc_command.specs.Baseline.{IsNoBaseline}
use Rattle.hc_command.specs.declared.baseline.BaselineTrouble.{BaselineTrouble}
use Rattle.hc_auditing.proofs.AuditLemmas.{at_end}
use Rattle.hc_command.proofs.HeldLemmas.{no_baseline_in}
use Rattle.hc_command.proofs.baseline.baseline_of.Goals as goal

pub returns-in-Ok-clause-ok : goal.returns-in-Ok-clause-ok
returns-in-Ok-clause-ok g c =
    let was : IfOk c.read_baseline.result (λ (baseline : Baseline). IsBaseline c.in-Ok.octets.items (view baseline.report)) = rw c.as_slice.ensures.value at c.read_baseline.ensures.ok in
    IfOk-weaker c.read_baseline.result _ _ (λ baseline is.
    at_end (λ o. IsBaseline o (view baseline.report)) (g.R.Read.remaining c.args.input.now) _ c.in-Ok.octets.items c.in-Ok.ensures.consumed c.in-Ok.ensures.end is) was

pub returns-in-Ok-clause-err : goal.returns-in-Ok-clause-err
returns-in-Ok-clause-err g c =
    let was : IfErr c.read_baseline.result (λ (why : BaselineTrouble). IsNoBaseline why (Some c.in-Ok.octets.items)) = rw c.as_slice.ensures.value at c.read_baseline.ensures.err in
    IfErr-weaker c.read_baseline.result _ _ (λ why is.
    no_baseline_in why (g.R.Read.remaining c.args.input.now) _ c.in-Ok.octets.items c.in-Ok.ensures.consumed c.in-Ok.ensures.end is) was
