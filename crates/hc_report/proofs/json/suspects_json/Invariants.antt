use Rattle.hc_figures.specs.Objects.{HoldsDepth}
use Rattle.hc_report.proofs.json.suspects_json.Given as goal

abbrev pub invariant-loop-suspect : goal.invariant-loop-suspect
invariant-loop-suspect l = HoldsDepth 2 l.array
