use Rattle.std.proofs.Common.{◌≡◌, ◌++◌, not, drop}
use Rattle.std.specs.Prelude.{filter}
use Rattle.hc_fields.specs.Connection.{removed}
use Rattle.hc_replies.specs.Lines.{passed_back}
use Rattle.hc_replies.proofs.lines.passed_back.Given as goal

-- what was kept so far, and what will be of the lines that are left
abbrev pub invariant-loop-line : goal.invariant-loop-line
invariant-loop-line l = l.kept ++ filter (λ f. not (removed f.name l.received)) (drop l.line-index l.line-items) ≡ passed_back l.received
