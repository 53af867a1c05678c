use Rattle.hc_figures.specs.Objects.{HasDepth}
use Rattle.hc_report.proofs.json.kinds_json.Given as goal

abbrev pub invariant-loop-new : goal.invariant-loop-new
invariant-loop-new l = HasDepth 1 l.object
