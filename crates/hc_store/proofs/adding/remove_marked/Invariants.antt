use Rattle.std.proofs.Common.{◌≡◌, ◌≤◌, ◌++◌, length, take, drop}
use Rattle.std.specs.Vec.{vec_capacity}
use Rattle.hc_store.specs.Marks.{unmarked}
use Rattle.hc_store.proofs.adding.remove_marked.Given as goal

abbrev pub invariant-loop-place : goal.invariant-loop-place
invariant-loop-place l = record {
  before : l.place ≤ length l.initial.variants.items;
  items : l.variants.items ≡ take l.place l.initial.variants.items ++ unmarked (drop l.place l.marks) (drop l.place l.initial.variants.items);
  room : vec_capacity l.variants ≡ vec_capacity l.initial.variants;
}

abbrev pub decreases-loop-place : goal.decreases-loop-place
decreases-loop-place l = l.place
