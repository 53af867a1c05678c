use Rattle.std.proofs.Common.{◌≡◌, length, take, map}
use Rattle.hc_store.specs.Entries.{most_variants}
use Rattle.hc_store.specs.Choosing.{is_selected}
use Rattle.hc_store.proofs.adding.marks_of_selected.Given as goal

abbrev pub invariant-loop-place : goal.invariant-loop-place
invariant-loop-place l = record {
  size : length l.marks ≡ most_variants;
  so_far : take l.place l.marks ≡ map (is_selected l.presented) (take l.place l.variants);
}
