use Rattle.std.proofs.Common.{◌≡◌, ◌||◌, ◌++◌, not, codes, drop}
use Rattle.std.specs.Prelude.{filter}
use Rattle.std.specs.Str.{bytes_eq}
use Rattle.hc_fields.specs.Connection.{left_out_of_store}
use Rattle.hc_update.specs.States.{kept_lines}
use Rattle.hc_update.proofs.keeping.kept_lines.Given as goal

-- what was kept so far, and what will be of the lines that are left
abbrev pub invariant-loop-line : goal.invariant-loop-line
invariant-loop-line l =
    l.kept ++ filter (λ f. not (left_out_of_store f.name l.received || bytes_eq f.name (codes "age"))) (drop l.line-index l.line-items)
    ≡ kept_lines l.received
