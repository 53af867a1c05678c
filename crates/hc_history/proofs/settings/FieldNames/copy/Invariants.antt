use Rattle.std.proofs.Common.{◌≡◌, ◌++◌, drop}
use Rattle.hc_history.proofs.settings.FieldNames.copy.Given as goal

-- the copies so far, and the names that are left
abbrev pub invariant-loop-name : goal.invariant-loop-name
invariant-loop-name l = l.copies ++ drop l.name-index l.name-items ≡ l.name-items
