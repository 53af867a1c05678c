use Rattle.std.proofs.Common.{◌≡◌}
use Rattle.std.specs.Cmp.Lexicographic.{pointwise}
use Rattle.std.specs.Str.{bytes_eq}
use Rattle.hc_fields.specs.Values.{values_of}
use Rattle.hc_history.specs.Filters.{same_values}
use Rattle.hc_history.proofs.compared.same_values.Given as goal

-- what is left of both decides
abbrev pub invariant-loop-value : goal.invariant-loop-value
invariant-loop-value l =
    pointwise bytes_eq (values_of l.value-iterator.name.now l.value-iterator.lines) (values_of l.others.name.now l.others.lines)
    ≡ same_values l.fn.one l.fn.other l.name
