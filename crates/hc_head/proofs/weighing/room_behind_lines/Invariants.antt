use Rattle.std.proofs.Common.{◌≡◌, ◌+◌, drop}
use Rattle.hc_head.specs.Weights.{fields_weight}
use Rattle.hc_head.proofs.weighing.room_behind_lines.Given as goal

abbrev pub invariant-loop-line : goal.invariant-loop-line
invariant-loop-line l =
    l.room + fields_weight l.lines ≡ l.fn.room + fields_weight (drop l.line-index l.lines)
