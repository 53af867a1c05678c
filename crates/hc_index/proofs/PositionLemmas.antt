-- Targets as keys.
use Rattle.std.proofs.Common.{◌≡◌, sym}
use Rattle.std.specs.Ordering.{is_eq}
use Rattle.hc_head.specs.declared.head.Target.{Target}
use Rattle.hc_head.specs.contracts.head.TargetOrd.TheImpl.Laws.{matches_eq-law}
use Rattle.hc_head.specs.Targets.{same_target}
use Rattle.hc_index.specs.Lists.{by_target}

-- the order ties those that are the same
pub tied : (one other : Target) → is_eq (by_target one other) ≡ same_target one other
tied one other = sym (matches_eq-law one other)
