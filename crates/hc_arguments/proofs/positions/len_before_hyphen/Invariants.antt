use Rattle.std.proofs.Common.{◌≡◌, ◌+◌, drop}
use Rattle.hc_arguments.specs.Positions.{len_before_hyphen}
use Rattle.hc_arguments.proofs.positions.len_before_hyphen.Given as goal

-- no hyphen so far
abbrev pub invariant-loop-index : goal.invariant-loop-index
invariant-loop-index l = len_before_hyphen (drop l.index l.text) + l.index ≡ len_before_hyphen l.text
