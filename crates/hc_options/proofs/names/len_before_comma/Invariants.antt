use Rattle.std.proofs.Common.{◌≡◌, ◌+◌, drop}
use Rattle.hc_options.specs.Values.{len_before_comma}
use Rattle.hc_options.proofs.names.len_before_comma.Given as goal

-- no comma so far
abbrev pub invariant-loop-index : goal.invariant-loop-index
invariant-loop-index l = len_before_comma (drop l.index l.list) + l.index ≡ len_before_comma l.list
