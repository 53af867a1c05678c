use Rattle.std.proofs.Common.{◌≡◌, false, take}
use Rattle.std.specs.List.{list_any}
use Rattle.hc_transcript.proofs.MarkLemmas.{is_space}
use Rattle.hc_transcript.proofs.numerals.numeral_before_space.Given as goal

-- no space so far
abbrev pub invariant-loop-at : goal.invariant-loop-at
invariant-loop-at l = list_any is_space (take l.at l.text) ≡ false
