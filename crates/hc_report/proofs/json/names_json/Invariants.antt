use Rattle.hc_figures.specs.Objects.{HoldsDepth}
use Rattle.hc_report.proofs.json.names_json.Given as goal

abbrev pub invariant-loop-gap : goal.invariant-loop-gap
invariant-loop-gap l = HoldsDepth 0 l.array
