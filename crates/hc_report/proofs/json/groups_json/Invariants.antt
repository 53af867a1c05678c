use Rattle.hc_figures.specs.Objects.{HoldsDepth}
use Rattle.hc_report.proofs.json.groups_json.Given as goal

abbrev pub invariant-loop-group : goal.invariant-loop-group
invariant-loop-group l = HoldsDepth 2 l.array
