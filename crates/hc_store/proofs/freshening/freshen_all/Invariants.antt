use Rattle.std.proofs.Common.{◌≤◌, length}
use Rattle.hc_store.specs.Views.{validation_seen}
use Rattle.hc_store.proofs.FreshenLemmas.{IsLeftFrom}
use Rattle.hc_store.proofs.freshening.freshen_all.Given as goal

abbrev pub invariant-loop-place : goal.invariant-loop-place
invariant-loop-place l = record {
  before : l.place ≤ length l.initial.variants.items;
  left : IsLeftFrom l.keeps_cookies (validation_seen l.validation) l.initial.variants.items l.place l.freshened l.variants.items;
}

abbrev pub decreases-loop-place : goal.decreases-loop-place
decreases-loop-place l = l.place
