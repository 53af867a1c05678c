-- Which part a target goes into.
use Rattle.std.specs.Prelude.{ℕ, ◌%◌, List, get_or, Option, Some, None}
use Rattle.std.specs.BTreeMap.{get}
use Rattle.std.specs.declared.cmp.Ordering.{Ordering}
use Rattle.hc_head.specs.contracts.head.TargetOrd.TheImpl as target_order
use Rattle.hc_head.specs.declared.head.Target.{Target}
use Rattle.hc_split.specs.declared.parts.Parts.{Parts}

-- the order of targets
abbrev pub by_target : Target → Target → Ordering
by_target = (target_order.ghosts).cmp

-- the part of a family, among so many parts; the first where there is none
abbrev pub part_at : ℕ → List ℕ → Option ℕ → ℕ
part_at count parts None = 0
part_at count parts (Some number) = get_or parts number 0 % count

-- the part of a target
abbrev pub part_by : Parts → Target → ℕ
part_by parts target = part_at parts.count parts.parts.items (get by_target parts.numbers target)
