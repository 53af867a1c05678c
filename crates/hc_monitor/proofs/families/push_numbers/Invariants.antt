use Rattle.std.proofs.Common.{◌≡◌, ◌++◌, take}
use Rattle.std.specs.List.{flat_map}
use Rattle.hc_monitor.specs.Exposition.{number_line}
use Rattle.hc_monitor.proofs.families.push_numbers.Given as goal

-- those that were passed over are told
abbrev pub invariant-loop-number : goal.invariant-loop-number
invariant-loop-number l = l.out.items ≡ l.initial.out.items ++ flat_map number_line (take l.number-index l.numbers)
