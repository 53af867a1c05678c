use Rattle.std.proofs.Common.{◌≡◌, ◌≤◌, false, take}
use Rattle.std.specs.List.{list_any}
use Rattle.hc_transcript.specs.Limits.{longest_line}
use Rattle.hc_transcript.specs.Lines.{is_feed}
use Rattle.hc_transcript.proofs.first_line.line_end.Given as goal

abbrev pub invariant-loop-at : goal.invariant-loop-at
invariant-loop-at l = record {
  short : l.at ≤ longest_line;
  no_feed : list_any is_feed (take l.at l.bytes) ≡ false;
}
