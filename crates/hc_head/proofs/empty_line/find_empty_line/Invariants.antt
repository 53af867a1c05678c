use Rattle.std.proofs.Common.{◌≡◌, ℕ, ◌+◌, ◌<◌, take}
use Rattle.std.specs.Prelude.{◌≢◌}
use Rattle.hc_head.specs.declared.empty_line.Search.TheVariants.{Found}
use Rattle.hc_head.specs.EmptyLine.{searched}
use Rattle.hc_head.proofs.empty_line.find_empty_line.Given as goal

abbrev pub invariant-loop-at : goal.invariant-loop-at
invariant-loop-at l = record {
  stands : l.reached ≡ searched l.fn.from (take l.at l.octets);
  first : (k : ℕ) → k < l.at + 1 → searched l.fn.from (take k l.octets) ≢ Found;
}
