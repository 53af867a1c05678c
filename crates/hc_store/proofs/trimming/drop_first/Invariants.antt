use Rattle.std.proofs.Common.{◌≡◌, length}
use Rattle.hc_store.specs.Changes.{last_variants}
use Rattle.hc_store.proofs.trimming.drop_first.Given as goal

abbrev pub invariant-loop-variants : goal.invariant-loop-variants
invariant-loop-variants l = last_variants l.bytes l.variants.items ≡ last_variants l.bytes l.initial.variants.items

abbrev pub decreases-loop-variants : goal.decreases-loop-variants
decreases-loop-variants l = length l.variants.items
