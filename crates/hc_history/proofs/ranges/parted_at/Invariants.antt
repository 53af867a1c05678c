use Rattle.std.proofs.Common.{◌≡◌, false, take}
use Rattle.std.specs.List.{list_any}
use Rattle.hc_history.proofs.PartLemmas.{is_octet}
use Rattle.hc_history.proofs.ranges.parted_at.Given as goal

-- no such octet so far
abbrev pub invariant-loop-at : goal.invariant-loop-at
invariant-loop-at l = list_any (is_octet l.octet) (take l.at l.text) ≡ false
