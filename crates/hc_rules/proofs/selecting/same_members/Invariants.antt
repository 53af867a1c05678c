use Rattle.std.proofs.Common.{◌≡◌}
use Rattle.std.specs.Cmp.Lexicographic.{pointwise}
use Rattle.std.specs.Str.{bytes_eq}
use Rattle.hc_rules.proofs.selecting.same_members.Given as goal

-- what is left of both decides
abbrev pub invariant-loop-one : goal.invariant-loop-one
invariant-loop-one l = pointwise bytes_eq l.one-iterator l.others ≡ pointwise bytes_eq l.fn.ones l.fn.others
