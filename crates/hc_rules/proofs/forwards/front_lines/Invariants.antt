use Rattle.std.proofs.Common.{◌≡◌, ◌++◌, drop}
use Rattle.std.specs.Prelude.{filter}
use Rattle.hc_rules.specs.Forwards.{front_lines, goes_forward}
use Rattle.hc_rules.proofs.forwards.front_lines.Given as goal

-- the lines so far, and what goes forward of those that are left
abbrev pub invariant-loop-line : goal.invariant-loop-line
invariant-loop-line l =
    l.lines ++ filter (λ f. goes_forward l.received f.name) (drop l.line-index l.line-items) ≡ front_lines l.target l.received
