use Rattle.std.proofs.Common.{◌≡◌, take, Some}
use Rattle.std.specs.Prelude.{IfSome, slice_get}
use Rattle.std.specs.Option.{option_map}
use Rattle.hc_store.specs.Choosing.{chosen}
use Rattle.hc_store.proofs.choosing.chosen_place.Given as goal

abbrev pub invariant-loop-place : goal.invariant-loop-place
invariant-loop-place l = record {
  so_far : option_map (λ b. b.variant.now) l.best ≡ chosen l.presented (take l.place l.variants);
  at_place : IfSome l.best (λ b. slice_get l.variants b.place ≡ Some b.variant.now);
}
