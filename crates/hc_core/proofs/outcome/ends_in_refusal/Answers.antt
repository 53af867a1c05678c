use Rattle.std.proofs.Common.{◌∙◌, ap, sym}
use Rattle.hc_core.specs.Results.{is_cut_off}
use Rattle.hc_core.proofs.CutLemmas.{cut_off-last}
use Rattle.hc_core.proofs.outcome.ends_in_refusal.Goals as goal

pub returns-in-Some : goal.returns-in-Some
returns-in-Some c = c.is_refusal.ensures ∙ sym (ap is_cut_off c.in-Some.ensures.cases.0 ∙ cut_off-last c.in-Some.field-0-1.now c.in-Some.last.now)
