use Rattle.std.proofs.Common.{◌≡◌, length}
use Rattle.hc_bench.specs.Storing.{responses}
use Rattle.hc_bench.proofs.storing.responses.Given as goal

-- so many responses so far
abbrev pub invariant-responses : goal.invariant-responses
invariant-responses l = (l.made.items ≡ responses l.keys l.before) × (length l.made.items ≡ l.before)
