use Rattle.hc_figures.specs.Objects.{HoldsDepth}
use Rattle.hc_report.proofs.json.targets_json.Given as goal

abbrev pub invariant-loop-target : goal.invariant-loop-target
invariant-loop-target l = HoldsDepth 0 l.array
