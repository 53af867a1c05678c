use Rattle.std.proofs.Common.{◌≡◌, ◌++◌, drop}
use Rattle.hc_replies.specs.Lines.{repeated}
use Rattle.hc_replies.proofs.lines.repeated.Given as goal

-- what was kept so far, and what will be of the lines that are left
abbrev pub invariant-loop-line : goal.invariant-loop-line
invariant-loop-line l = l.kept ++ repeated (drop l.line-index l.line-items) ≡ repeated l.fields
