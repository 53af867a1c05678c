use Rattle.std.proofs.Common.{◌≡◌, ◌++◌, Some}
use Rattle.std.specs.Prelude.{codes}
use Rattle.std.specs.List.{flat_map}
use Rattle.hc_fields.specs.Values.{values_of, joined_values}
use Rattle.hc_fields.proofs.views.FieldsView.joined.Given as goal

-- what was joined so far, and the values that are left, each behind a comma and a space
abbrev pub invariant-loop-value : goal.invariant-loop-value
invariant-loop-value l =
    Some (l.joined ++ flat_map (λ v. codes ", " ++ v) (values_of l.value-iterator.name.now l.value-iterator.lines))
    ≡ joined_values (values_of l.name l.fn.self)
