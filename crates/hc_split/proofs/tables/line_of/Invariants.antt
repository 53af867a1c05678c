use Rattle.std.proofs.Common.{◌≡◌, false, take}
use Rattle.std.specs.List.{list_any}
use Rattle.hc_transcript.specs.Lines.{is_feed}
use Rattle.hc_split.proofs.tables.line_of.Given as goal

abbrev pub invariant-loop-at : goal.invariant-loop-at
invariant-loop-at l = list_any is_feed (take l.at l.text) ≡ false
