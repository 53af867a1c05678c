use Rattle.std.proofs.Common.{◌≡◌, ℕ, List, drop}
use Rattle.hc_split.specs.Splitting.{table_text}
use Rattle.hc_split.specs.Tables.{AreFew}
use Rattle.hc_split.proofs.tables.behind_lines.Given as goal

abbrev pub invariant-loop-at : goal.invariant-loop-at
invariant-loop-at l = (positions : List ℕ) → AreFew positions → l.table ≡ table_text positions → l.rest ≡ table_text (drop l.at positions)
