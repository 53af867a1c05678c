use Rattle.std.proofs.Common.{◌≡◌}
use Rattle.hc_bench.specs.Storing.{given_all}
use Rattle.hc_bench.proofs.storing.put_all.Given as goal

-- the store was given so many of them so far
abbrev pub invariant-responses : goal.invariant-responses
invariant-responses g l = l.store ≡ given_all l.yielded l.initial.store
