use Rattle.std.proofs.Common.{◌≡◌, ◌+◌, drop}
use Rattle.hc_store.specs.Entries.{variants_weight}
use Rattle.hc_store.proofs.weights.room_behind_all.Given as goal

abbrev pub invariant-loop-variant : goal.invariant-loop-variant
invariant-loop-variant l = l.room + variants_weight l.variants ≡ l.fn.room + variants_weight (drop l.variant-index l.variants)
