use Rattle.std.proofs.Common.{◌≡◌}
use Rattle.hc_bench.specs.Storing.{filled}
use Rattle.hc_bench.proofs.storing.filled.Given as goal

-- the store was given so many responses so far
abbrev pub invariant-keys : goal.invariant-keys
invariant-keys l = l.store ≡ filled l.keys l.number
