use Rattle.std.proofs.Common.{◌≡◌, ◌++◌, Some}
use Rattle.std.specs.Prelude.{codes, map}
use Rattle.std.specs.List.{flat_map}
use Rattle.hc_fields.specs.Values.{values_of}
use Rattle.hc_fields.specs.Lists.{trimmed}
use Rattle.hc_rules.specs.Selecting.{joined_lines}
use Rattle.hc_rules.proofs.selecting.joined_lines.Given as goal

-- what was joined so far, and the values that are left, each trimmed, behind a comma and a space
abbrev pub invariant-loop-value : goal.invariant-loop-value
invariant-loop-value l =
    Some (l.joined ++ flat_map (λ v. codes ", " ++ v) (map trimmed (values_of l.value-iterator.name.now l.value-iterator.lines)))
    ≡ joined_lines l.name l.fn.fields
