use Rattle.hc_figures.specs.Objects.{HoldsDepth}
use Rattle.hc_report.proofs.json.tries_json.Given as goal

abbrev pub invariant-loop-one : goal.invariant-loop-one
invariant-loop-one l = HoldsDepth 2 l.array
