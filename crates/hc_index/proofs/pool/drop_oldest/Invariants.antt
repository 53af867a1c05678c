use Rattle.std.proofs.Common.{◌≡◌, drop}
use Rattle.hc_index.proofs.pool.drop_oldest.Given as goal

-- so many are given up
abbrev pub invariant-loop : goal.invariant-loop
invariant-loop l = l.answers.items ≡ drop l.counter l.initial.answers.items
