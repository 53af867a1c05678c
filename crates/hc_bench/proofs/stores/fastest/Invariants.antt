use Rattle.std.proofs.Common.{◌≡◌}
use Rattle.hc_bench.proofs.stores.fastest.Given as goal

-- each round times as many calls
abbrev pub invariant-rounds : goal.invariant-rounds
invariant-rounds g l = (l.best.choose.count ≡ l.calls) × (l.best.put.count ≡ l.calls)
