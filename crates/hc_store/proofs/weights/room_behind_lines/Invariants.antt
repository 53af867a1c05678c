use Rattle.std.proofs.Common.{◌≡◌, ◌+◌, drop}
use Rattle.hc_store.specs.Entries.{lines_weight}
use Rattle.hc_store.proofs.weights.room_behind_lines.Given as goal

abbrev pub invariant-loop-line : goal.invariant-loop-line
invariant-loop-line l = l.room + lines_weight l.lines ≡ l.fn.room + lines_weight (drop l.line-index l.lines)
